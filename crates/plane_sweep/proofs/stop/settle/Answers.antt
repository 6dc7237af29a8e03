use Rattle.std.proofs.Common.{Option, FitsSigned, w64, rules, refl, ap, ◌∙◌}
use Rattle.std.proofs.lemmas.Int.{to_z-of_z}
use Rattle.half_grid.specs.declared.plane.Line.{Line}
use Rattle.plane_sweep.specs.declared.entry.Runs.TheVariants.{Apart}
use Rattle.plane_sweep.proofs.AlikeRuns.{alike_self}
use Rattle.plane_sweep.proofs.EnterSteps.{maybe_alike}
use Rattle.plane_sweep.proofs.WayWith.{not_settled, settled_alike, settled_none, settled_some}
use Rattle.plane_sweep.proofs.stop.settle.Goals as goal

pub returns-then-not-are_same-clause-alike : goal.returns-then-not-are_same-clause-alike
returns-then-not-are_same-clause-alike c = alike_self c.args.lines.now.before

pub returns-then-not-are_same-clause-runs : goal.returns-then-not-are_same-clause-runs
returns-then-not-are_same-clause-runs c = not_settled c.args.level.y c.args.left c.args.lines.now (c.are_same.ensures.no c.if-not-are_same.true)

pub returns-in_default-clause-alike : goal.returns-in_default-clause-alike
returns-in_default-clause-alike c = alike_self c.args.lines.now.before

pub returns-in_default-clause-runs : goal.returns-in_default-clause-runs
returns-in_default-clause-runs c =
    settled_alike c.args.level.y c.args.left _ (c.are_same.ensures.yes c.if-not-are_same.false) refl refl c.args.lines.now c.in_default.is

pub returns-in_default-apart-clause-alike : goal.returns-in_default-apart-clause-alike
returns-in_default-apart-clause-alike c = alike_self c.args.lines.now.before

pub returns-in_default-apart-clause-runs : goal.returns-in_default-apart-clause-runs
returns-in_default-apart-clause-runs c =
    settled_none c.args.level.y c.args.left _ (c.are_same.ensures.yes c.if-not-are_same.false) refl refl c.args.lines.now
    (c.in-Apart.is ∙ ap (λ (r : Option Line). Apart r) c.in_default-apart.is)

pub returns-clause-alike : goal.returns-clause-alike
returns-clause-alike c = maybe_alike _ _ _ c.reopen-was.result c.reopen-was.ensures.some c.reopen-was.ensures.same

pub returns-clause-runs : goal.returns-clause-runs
returns-clause-runs c =
    let short : FitsSigned w64 c.args.level.y = search rules in
    let again = simp to_z-of_z at c.reopen-was.ensures.some in
    settled_some c.args.level.y c.args.left _ (c.are_same.ensures.yes c.if-not-are_same.false) refl refl c.args.lines.now c.reopen-was.new.self
    c.in-Some.right c.reopen-was.result (c.in-Apart.is ∙ ap (λ (r : Option Line). Apart r) c.in-Some.is) again c.reopen-was.ensures.none
    c.reopen-was.ensures.after
