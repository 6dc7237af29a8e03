use Rattle.std.proofs.Common.{rules, ◌≡◌, ◌≢◌, sym, ◌∙◌}
use Rattle.column_sweep.proofs.Stepping.{opposites_add, same_one_of}
use Rattle.column_sweep.proofs.sums.are_opposite.Goals as goal

pub returns : goal.returns
returns c = λ is o j.
    let low : c.args.e.now.y0 ≡ c.args.f.now.y0 = search rules in
    let high : c.args.e.now.y1 ≡ c.args.f.now.y1 = search rules in
    let up : c.args.e.now.up ≢ c.args.f.now.up = search rules in
    let of : c.args.e.now.operand ≡ c.args.f.now.operand = sym c.operand.ensures.value
    ∙ (same_one_of _ _ (sym c.is_of.ensures ∙ is) ∙ c.operand-2.ensures.value) in
    opposites_add c.args.e.now c.args.f.now low high up of o j
