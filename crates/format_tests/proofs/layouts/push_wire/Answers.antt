use Rattle.std.proofs.Common.{◌^◌, ◌+ℤ◌, arith}
use Rattle.std.proofs.lemmas.Int.{ints}
use Rattle.std.proofs.lemmas.List.Elements.{All-map, All-weaker}
use Rattle.half_grid.specs.declared.plane.Point.{Point}
use Rattle.layout_model.specs.Images.{moved}
use Rattle.layout_model.specs.Layouts.{IsWithin}
use Rattle.layout_model.specs.PathBounds.{IsNearPoint}
use Rattle.layout_model.specs.Segments.{IsNearSegment, moved_segment}
use Rattle.format_tests.proofs.layouts.push_wire.Goals as goal

stays_near : (by p : Point) → IsWithin (2 ^ 40) by → IsWithin 100 p → IsNearPoint (moved by p)
stays_near by p h k = record {
  x = record { low = omega (arith, ints, h.x_low, k.x_low); high = omega (arith, ints, h.x_high, k.x_high) };
  y = record { low = omega (arith, ints, h.y_low, k.y_low); high = omega (arith, ints, h.y_high, k.y_high) };
}

abbrev IsClose : Point × Point → Type 0
IsClose segment = IsWithin 100 segment.0 × IsWithin 100 segment.1

pub push_path-pushed-requires-clause-near : goal.push_path-pushed-requires-clause-near
push_path-pushed-requires-clause-near g c =
    All-map IsNearSegment (moved_segment c.args.by) c.args.wire.now
    (All-weaker IsClose (λ s. IsNearSegment (moved_segment c.args.by s))
    (λ s near. (stays_near c.args.by s.0 c.requires.by near.0, stays_near c.args.by s.1 c.requires.by near.1)) c.args.wire.now c.requires.wire)
