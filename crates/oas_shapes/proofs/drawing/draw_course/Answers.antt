use Rattle.std.proofs.Common.{◌∙◌, subst}
use Rattle.std.specs.Prelude.{option_copied}
use Rattle.std.proofs.lemmas.Result.{on_ok_weaker}
use Rattle.oas_shapes.specs.Outlines.{path_points}
use Rattle.oas_shapes.specs.Brushes.{KeepsCourse}
use Rattle.oas_shapes.specs.Rules.{AreNear, IsLowest}
use Rattle.oas_shapes.proofs.RuleLemmas.{path_keeps, path_lowest}
use Rattle.oas_shapes.proofs.drawing.draw_course.Goals as goal

pub returns-in-Ok-clause-kept : goal.returns-in-Ok-clause-kept
returns-in-Ok-clause-kept c =
    let e = c.as_slice.ensures ∙ c.in-Ok.ensures.places in
    let rep = option_copied c.args.repetition in
    on_ok_weaker c.add_path.result
    (λ kept rule.
    path_keeps c.args.at c.args.brush c.args.points.now rep c.requires.brush (subst AreNear c.in-Ok.ensures.places c.in-Ok.ensures.near) rule
    (subst (λ b. KeepsCourse b (path_points c.args.at c.args.points.now) rep rule) c.halves.ensures.value
    (subst (λ ps. KeepsCourse c.halves.result ps rep rule) e (kept rule))))
    c.add_path.ensures.kept

pub returns-in-Ok-clause-broken : goal.returns-in-Ok-clause-broken
returns-in-Ok-clause-broken c = λ rule bad.
    let e = c.as_slice.ensures ∙ c.in-Ok.ensures.places in
    let rep = option_copied c.args.repetition in
    path_lowest c.args.at c.args.brush c.args.points.now rep c.requires.brush (subst AreNear c.in-Ok.ensures.places c.in-Ok.ensures.near) rule
    (subst (λ b. IsLowest (KeepsCourse b (path_points c.args.at c.args.points.now) rep) rule) c.halves.ensures.value
    (subst (λ ps. IsLowest (KeepsCourse c.halves.result ps rep) rule) e (c.add_path.ensures.broken rule bad)))

pub returns-in-Ok-clause-memory : goal.returns-in-Ok-clause-memory
returns-in-Ok-clause-memory c = λ few short wanting rule.
    let e = c.as_slice.ensures ∙ c.in-Ok.ensures.places in
    let rep = option_copied c.args.repetition in
    path_keeps c.args.at c.args.brush c.args.points.now rep c.requires.brush (subst AreNear c.in-Ok.ensures.places c.in-Ok.ensures.near) rule
    (subst (λ b. KeepsCourse b (path_points c.args.at c.args.points.now) rep rule) c.halves.ensures.value
    (subst (λ ps. KeepsCourse c.halves.result ps rep rule) e (c.add_path.ensures.memory short wanting rule)))
