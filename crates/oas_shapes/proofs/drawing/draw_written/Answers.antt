use Rattle.std.proofs.Common.{◌∙◌, sym, subst}
use Rattle.std.specs.Prelude.{option_copied}
use Rattle.std.proofs.lemmas.Result.{on_ok_weaker}
use Rattle.half_grid.specs.Outlines.{IsClosed}
use Rattle.oas_shapes.specs.Rules.{AreNear, KeepsShape, IsLowest}
use Rattle.oas_shapes.proofs.RuleLemmas.{polygon_keeps, polygon_lowest}
use Rattle.oas_shapes.proofs.VertexLemmas.{polygon_closed}
use Rattle.oas_shapes.proofs.drawing.draw_written.Goals as goal

pub add-requires-clause-closed : goal.add-requires-clause-closed
add-requires-clause-closed c =
    subst IsClosed (sym (c.as_slice.ensures ∙ c.in-Ok.ensures.outline)) (polygon_closed c.args.at c.args.points.now)

pub returns-in-Ok-clause-kept : goal.returns-in-Ok-clause-kept
returns-in-Ok-clause-kept c =
    let e = c.as_slice.ensures ∙ c.in-Ok.ensures.outline in
    let rep = option_copied c.args.repetition in
    on_ok_weaker c.add.result
    (λ kept rule.
    polygon_keeps c.args.at c.args.points.now rep (subst AreNear c.in-Ok.ensures.outline c.in-Ok.ensures.near) rule
    (subst (λ o. KeepsShape o rep rule) e (kept rule)))
    c.add.ensures.kept

pub returns-in-Ok-clause-broken : goal.returns-in-Ok-clause-broken
returns-in-Ok-clause-broken c = λ rule bad.
    let e = c.as_slice.ensures ∙ c.in-Ok.ensures.outline in
    let rep = option_copied c.args.repetition in
    polygon_lowest c.args.at c.args.points.now rep (subst AreNear c.in-Ok.ensures.outline c.in-Ok.ensures.near) rule
    (subst (λ o. IsLowest (KeepsShape o rep) rule) e (c.add.ensures.broken rule bad))

pub returns-in-Ok-clause-memory : goal.returns-in-Ok-clause-memory
returns-in-Ok-clause-memory c = λ few short wanting rule.
    let e = c.as_slice.ensures ∙ c.in-Ok.ensures.outline in
    let rep = option_copied c.args.repetition in
    polygon_keeps c.args.at c.args.points.now rep (subst AreNear c.in-Ok.ensures.outline c.in-Ok.ensures.near) rule
    (subst (λ o. KeepsShape o rep rule) e (c.add.ensures.memory short wanting rule))
