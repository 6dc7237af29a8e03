-- The sides of a box that is kept in 32 bits can be had back from it. These are proofs, for a ghost item to cite.
use Rattle.std.specs.Prelude.{◌≡◌, ℤ}
use Rattle.std.proofs.Common.{arith}
use Rattle.std.proofs.lemmas.Int.{ints}
use Rattle.layout_model.specs.Kept.{IsShort}
use Rattle.flat_walk.specs.ShortBoxes.{side_of, side_from, frame_of, box_from, AreShort}
use Rattle.flat_walk.specs.declared.short_boxes.ShortBox.TheInside.{Inside}

side_back : (z : ℤ) → IsShort z → side_from (side_of z) ≡ z
side_back z s = grind (arith, ints, s.low, s.high)

pub same_box : (sides : Inside) → AreShort sides → box_from (frame_of sides) ≡ sides
same_box sides short i = record {
  x0 = side_back sides.x0 short.x0 i;
  y0 = side_back sides.y0 short.y0 i;
  x1 = side_back sides.x1 short.x1 i;
  y1 = side_back sides.y1 short.y1 i;
}
