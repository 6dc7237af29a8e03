use Rattle.std.proofs.Common.{map, sym, subst, IfNone}
use Rattle.layout_model.specs.Images.{moved}
use Rattle.oas_shapes.specs.Outlines.{outline_of}
use Rattle.oas_shapes.specs.Rules.{AreNear}
use Rattle.oas_shapes.specs.Sketches.{corners_of}
use Rattle.oas_shapes.proofs.corners.outline_of.Goals as goal

pub returns-in-Three-clause-none : goal.returns-in-Three-clause-none
returns-in-Three-clause-none c =
    subst (λ r. IfNone c.three.result (¬ AreNear (outline_of (map (moved c.args.at) (corners_of r))))) (sym c.in-Three.is) c.three.ensures.none

pub returns-in-Four-clause-none : goal.returns-in-Four-clause-none
returns-in-Four-clause-none c =
    subst (λ r. IfNone c.four.result (¬ AreNear (outline_of (map (moved c.args.at) (corners_of r))))) (sym c.in-Four.is) c.four.ensures.none
