-- The brush of a path.
use Rattle.layout_model.specs.PathBounds.{IsNearOnPath}
use Rattle.gds_reader.specs.declared.drawing.Brush.{Brush}
use Rattle.layout_model.specs.declared.paths.PathBad.{PathBad}
use Rattle.layout_model.specs.declared.paths.PathBad.TheVariants as paths
use Rattle.geo_stream.specs.declared.refusal.Refusal.{Refusal}
use Rattle.geo_stream.specs.declared.refusal.Refusal.TheVariants as refusals
use Rattle.gds_reader.specs.declared.refusing.GdsBad.{GdsBad}
use Rattle.gds_reader.specs.declared.refusing.GdsBad.TheVariants.{Value}
use Rattle.gds_reader.specs.declared.elements.Element.{Element}
use Rattle.gds_reader.specs.Elements.{half_width_kept, begin_kept, end_kept}
use Rattle.std.specs.Prelude.{ℕ, pos, ◌≤ℤ◌}

abbrev pub brush_kept : Element → Brush
brush_kept e = record { half = half_width_kept e; begin = begin_kept e; end = end_kept e }

pub record IsNearBrush (brush : Brush) : Type 0 where
  pub low : pos 0 ≤ℤ brush.half
  pub half : IsNearOnPath brush.half
  pub begin : IsNearOnPath brush.begin
  pub end : IsNearOnPath brush.end

-- a path that can't be drawn breaks its rule, at this offset
abbrev pub refusal_by : PathBad → ℕ → Refusal GdsBad
refusal_by paths.NoMemory at = refusals.NoMemory
refusal_by paths.NoLength at = refusals.Fault (Value at 14)
refusal_by (paths.Diagonal k) at = refusals.Fault (Value at 14)
refusal_by (paths.TurnBack k) at = refusals.Fault (Value at 14)
refusal_by paths.EmptyEnd at = refusals.Fault (Value at 14)
