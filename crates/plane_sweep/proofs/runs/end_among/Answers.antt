use Rattle.std.proofs.Common.{◌≡◌, true, rules, sym, ◌∙◌}
use Rattle.plane_sweep.proofs.FoldLemmas.{end_more}
use Rattle.plane_sweep.proofs.runs.end_among.Goals as goal

pub loop-line-preserved : goal.loop-line-preserved
loop-line-preserved g c test is =
    let taken : c.takes.result ≡ true = search rules in
    end_more test c.in-Some.line.now c.in-Some.rest.now c.loop-line.left.now c.in-Some.ensures.cases.0 _ (sym (c.takes.ensures test is) ∙ taken)
    (c.loop-line.invariant test is)
