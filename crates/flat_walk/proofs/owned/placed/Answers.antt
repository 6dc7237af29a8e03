use Rattle.std.proofs.Common.{◌∙◌, sym, subst, refl}
use Rattle.half_grid.specs.Quads.{IsQuad}
use Rattle.flat_walk.proofs.PoseLemmas.{plain_image}
use Rattle.flat_walk.proofs.owned.placed.Goals as goal

pub moved_quad-requires-clause-quad : goal.moved_quad-requires-clause-quad
moved_quad-requires-clause-quad c =
    subst IsQuad (plain_image c.args.orient c.args.at c.args.quad c.args.quad refl
    (c.if-is_plain.ensures refl)) c.requires.quad

pub returns-then-is_plain : goal.returns-then-is_plain
returns-then-is_plain c =
    c.moved_quad.ensures ∙ sym (plain_image c.args.orient c.args.at c.args.quad c.args.quad refl (c.if-is_plain.ensures refl))
