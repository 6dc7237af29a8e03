use Rattle.std.proofs.Common.{rules, ◌≡◌, ◌≢◌, sym, ◌∙◌}
use Rattle.column_sweep.proofs.Halving.{rests_add}
use Rattle.column_sweep.proofs.Stepping.{same_one_of}
use Rattle.column_sweep.proofs.meeting.do_meet.Goals as goal

pub returns : goal.returns
returns c = λ is.
    let line : c.args.e.now.line ≡ c.args.f.now.line = search rules in
    let up : c.args.e.now.up ≢ c.args.f.now.up = search rules in
    let of : c.args.e.now.operand ≡ c.args.f.now.operand = sym c.operand.ensures.value
    ∙ (same_one_of _ _ (sym c.is_of.ensures ∙ is) ∙ c.operand-2.ensures.value) in
    rests_add c.args.e.now c.args.f.now c.line.ensures.edge.has_rows c.line-2.ensures.edge.has_rows line up of
