use Rattle.std.proofs.Common.{◌∙◌, ◌*◌, ◌^◌, sym, subst}
use Rattle.layout_model.specs.Layouts.{IsWithin}
use Rattle.flat_walk.proofs.PointLemmas.{oriented_within, not_moved}
use Rattle.flat_walk.specs.Poses.{oriented}
use Rattle.flat_walk.proofs.turning.oriented.Goals as goal

pub returns-clause-value : goal.returns-clause-value
returns-clause-value c = c.image.ensures ∙ not_moved (oriented c.args.orient c.args.p)

pub returns-clause-near : goal.returns-clause-near
returns-clause-near c =
    subst (IsWithin (16 * 2 ^ 53)) (sym (c.image.ensures ∙ not_moved (oriented c.args.orient c.args.p)))
    (oriented_within c.args.orient (2 ^ 53) c.args.p c.requires.orient.factor c.requires.near)
