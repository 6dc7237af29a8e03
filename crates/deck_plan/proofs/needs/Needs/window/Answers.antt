use Rattle.std.proofs.Common.{w64, FitsSigned, rules, arith}
use Rattle.std.proofs.lemmas.Int.{ints, to_z-of_z}
use Rattle.deck_plan.proofs.Slots.{filled}
use Rattle.deck_plan.proofs.needs.Needs.window.Goals as goal

pub widened-requires-clause-some : goal.widened-requires-clause-some
widened-requires-clause-some c =
    let h = c.requires.halo c.in-Some.need (filled c.args.self.now.by_name c.args.name c.in-Some.need c.in-Some.is) in
    let low = h.0 in
    let high = h.1 in
    let halo : FitsSigned w64 c.in-Some.need.halo = search rules in
    simp to_z-of_z low

pub widened-requires-clause-few : goal.widened-requires-clause-few
widened-requires-clause-few c =
    let h = c.requires.halo c.in-Some.need (filled c.args.self.now.by_name c.args.name c.in-Some.need c.in-Some.is) in
    let low = h.0 in
    let high = h.1 in
    let halo : FitsSigned w64 c.in-Some.need.halo = search rules in
    simp to_z-of_z (omega (arith, ints, high))
