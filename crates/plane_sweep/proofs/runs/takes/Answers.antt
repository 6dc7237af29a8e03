use Rattle.std.proofs.Common.{◌≡◌, rules, FitsSigned, w64}
use Rattle.std.specs.Int.{w128}
use Rattle.std.proofs.lemmas.Int.{to_z-of_z}
use Rattle.plane_sweep.proofs.RuleLemmas.{short_winding, test_answers}
use Rattle.plane_sweep.proofs.runs.takes.Goals as goal

pub asks-requires-clause-first : goal.asks-requires-clause-first
asks-requires-clause-first g c =
    let short : FitsSigned w64 c.args.windings.a = search rules in
    let wide : FitsSigned w128 c.from.result = search rules in
    let same : c.from.result ≡ c.args.windings.a = simp to_z-of_z at c.from.ensures in
    simp to_z-of_z (rw same (short_winding c.args.windings.a short))

pub asks-requires-clause-second : goal.asks-requires-clause-second
asks-requires-clause-second g c =
    let short : FitsSigned w64 c.args.windings.b = search rules in
    let wide : FitsSigned w128 c.from-2.result = search rules in
    let same : c.from-2.result ≡ c.args.windings.b = simp to_z-of_z at c.from-2.ensures in
    simp to_z-of_z (rw same (short_winding c.args.windings.b short))

pub returns : goal.returns
returns g c =
    let short_a : FitsSigned w64 c.args.windings.a = search rules in
    let short_b : FitsSigned w64 c.args.windings.b = search rules in
    let wide_a : FitsSigned w128 c.from.result = search rules in
    let wide_b : FitsSigned w128 c.from-2.result = search rules in
    let a : c.from.result ≡ c.args.windings.a = simp to_z-of_z at c.from.ensures in
    let b : c.from-2.result ≡ c.args.windings.b = simp to_z-of_z at c.from-2.ensures in
    let says = simp to_z-of_z at c.asks.ensures in
    test_answers (λ x y r. g.F.Fn.post c.args.rule.now (x, (y, tt)) r) c.args.windings c.asks.result (short_winding c.args.windings.a short_a)
    (short_winding c.args.windings.b short_b)
    (rw (a, b) at says)
