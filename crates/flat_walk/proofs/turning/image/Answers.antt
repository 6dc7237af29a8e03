use Rattle.std.proofs.Common.{arith, ◌+◌, ◌*◌, ◌^◌, ◌∙◌, sym, refl}
use Rattle.flat_walk.proofs.PointLemmas.{image_within, within_more}
use Rattle.flat_walk.proofs.PoseLemmas.{plain_point}
use Rattle.flat_walk.proofs.turning.image.Goals as goal

pub image-requires-clause-near : goal.image-requires-clause-near
image-requires-clause-near c = within_more (2 ^ 60 + 16 * 2 ^ 53) (2 ^ 62) _ (omega arith)
    (image_within c.args.orient (2 ^ 60) (2 ^ 53) c.args.at c.args.p c.requires.orient.factor c.requires.at c.requires.near)

pub returns-then-is_plain : goal.returns-then-is_plain
returns-then-is_plain c = c.moved.ensures ∙ sym (plain_point c.args.orient c.args.at c.args.p (c.if-is_plain.ensures refl))
