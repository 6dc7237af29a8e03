-- The segments of a path as they are kept.
use Rattle.std.specs.Prelude.{List, All, map}
use Rattle.half_grid.specs.declared.plane.Point.{Point}
use Rattle.layout_model.specs.Images.{moved}
use Rattle.layout_model.specs.PathBounds.{IsNearPoint}
use Rattle.layout_model.specs.declared.stretches.Segment.{Segment}
use Rattle.layout_model.specs.declared.stretches.Stretch.{Stretch}
use Rattle.layout_model.specs.declared.stretches.Walk.{Walk}

abbrev pub segment_of : Segment → Point × Point
segment_of s = (s.from, s.to)

abbrev pub segments_in : List Segment → List (Point × Point)
segments_in segments = map segment_of segments

-- where the current segment of a walk began, and how far it goes
abbrev pub ends_of : Walk → Point × Point
ends_of walk = (walk.from, walk.last)

-- both ends of a segment, moved
abbrev pub moved_segment : Point → Point × Point → Point × Point
moved_segment by segment = (moved by segment.0, moved by segment.1)

abbrev pub stretch_after : Point → Stretch → Stretch
stretch_after by s = record { from = moved by s.from; to = moved by s.to; half = s.half; before = s.before; after = s.after }

abbrev pub IsNearSegment : Point × Point → Type 0
IsNearSegment segment = IsNearPoint segment.0 × IsNearPoint segment.1

-- the segments are near 0 where they are moved so
abbrev pub AreNearAfter : Point → List (Point × Point) → Type 0
AreNearAfter by segments = All IsNearSegment (map (moved_segment by) segments)
