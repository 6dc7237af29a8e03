use Rattle.std.proofs.Common.{map, subst, IfNone}
use Rattle.layout_model.specs.Images.{moved}
use Rattle.oas_shapes.specs.Outlines.{outline_of}
use Rattle.oas_shapes.specs.Rules.{AreNear}
use Rattle.oas_shapes.proofs.corners.outline_at.Goals as goal

pub returns-clause-none : goal.returns-clause-none
returns-clause-none c =
    subst (λ xs. IfNone c.outline_of.result (¬ AreNear (outline_of (map (moved c.args.at) xs)))) c.ring_of.ensures c.outline_of.ensures.none
