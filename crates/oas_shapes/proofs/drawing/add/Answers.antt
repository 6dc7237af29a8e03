use Rattle.std.proofs.Common.{◌≡◌, Err, ap, sym, subst}
use Rattle.std.specs.Prelude.{All}
use Rattle.std.proofs.lemmas.List.Elements.{All-push}
use Rattle.layout_model.specs.Layouts.{IsShapeOnGrid}
use Rattle.oas_shapes.specs.declared.drawing.Undrawn.TheVariants.{Rule}
use Rattle.oas_shapes.proofs.drawing.add.Goals as goal

pub returns-in-Ok-push-clause-grid : goal.returns-in-Ok-push-clause-grid
returns-in-Ok-push-clause-grid c = λ old. subst (All IsShapeOnGrid) (sym c.in-Ok-push.ensures) (All-push IsShapeOnGrid _ _ old c.in-Ok.ensures.grid)

pub returns-in-Err-clause-broken : goal.returns-in-Err-clause-broken
returns-in-Err-clause-broken c = λ rule e. c.in-Err.ensures.broken rule (let bad : c.in-Err.bad ≡ Rule rule = cc in ap Err bad)
