use Rattle.std.proofs.Common.{refl, subst}
use Rattle.std.specs.Prelude.{option_copied}
use Rattle.std.proofs.lemmas.Result.{on_ok_weaker}
use Rattle.oas_shapes.specs.Rules.{AreNear, KeepsShape, IsLowest}
use Rattle.oas_shapes.proofs.RuleLemmas.{figure_keeps, figure_lowest}
use Rattle.oas_shapes.proofs.drawing.draw_figure.Goals as goal

pub returns-in-Some-clause-kept : goal.returns-in-Some-clause-kept
returns-in-Some-clause-kept c =
    let e = c.in-Some.ensures.outline in
    let rep = option_copied c.args.repetition in
    on_ok_weaker c.add_outline.result
    (λ kept rule.
    figure_keeps c.args.at c.args.figure rep (c.if-not-is_sized.ensures.0 refl) (subst AreNear e c.in-Some.ensures.near) rule
    (subst (λ o. KeepsShape o rep rule) e (kept rule)))
    c.add_outline.ensures.kept

pub returns-in-Some-clause-broken : goal.returns-in-Some-clause-broken
returns-in-Some-clause-broken c = λ rule bad.
    let e = c.in-Some.ensures.outline in
    let rep = option_copied c.args.repetition in
    figure_lowest c.args.at c.args.figure rep (c.if-not-is_sized.ensures.0 refl) (subst AreNear e c.in-Some.ensures.near) rule
    (subst (λ o. IsLowest (KeepsShape o rep) rule) e (c.add_outline.ensures.broken rule bad))

pub returns-in-Some-clause-memory : goal.returns-in-Some-clause-memory
returns-in-Some-clause-memory c = λ short wanting rule.
    let e = c.in-Some.ensures.outline in
    let rep = option_copied c.args.repetition in
    figure_keeps c.args.at c.args.figure rep (c.if-not-is_sized.ensures.0 refl) (subst AreNear e c.in-Some.ensures.near) rule
    (subst (λ o. KeepsShape o rep rule) e (c.add_outline.ensures.memory short wanting rule))
