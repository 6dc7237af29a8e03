use Rattle.std.proofs.Common.{rules, sym, ◌∙◌, FitsSigned, w64}
use Rattle.std.proofs.lemmas.Int.{to_z-of_z}
use Rattle.plane_sweep.proofs.FoldLemmas.{among_ends, among_kept, among_fresh}
use Rattle.plane_sweep.proofs.runs.opened_among.Goals as goal

pub returns-in-Some : goal.returns-in-Some
returns-in-Some g c test is =
    let short : FitsSigned w64 c.args.level.y = search rules in
    simp to_z-of_z (among_ends test c.args.level.y c.args.kept c.args.line c.in-Some.right c.args.others.now (sym (c.end_among.ensures test is) ∙ c.in-Some.is))

pub returns-in-Some-kept : goal.returns-in-Some-kept
returns-in-Some-kept g c test is =
    among_kept test c.args.level.y c.args.kept c.args.line c.args.others.now c.in-Some-kept.opened
    (sym (c.end_among.ensures test is) ∙ c.in_default.is) c.in-Some-kept.is

pub returns-in-None : goal.returns-in-None
returns-in-None g c test is =
    let short : FitsSigned w64 c.args.level.y = search rules in
    simp to_z-of_z (among_fresh test c.args.level.y c.args.kept c.args.line c.args.others.now
    (sym (c.end_among.ensures test is) ∙ c.in_default.is) c.in-None.is)
