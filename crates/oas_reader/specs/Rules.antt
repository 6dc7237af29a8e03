-- The rules that the values of records must keep, by their numbers.
--
-- 1 every position is within 2^40 grid steps of 0, and so are, on wanted pairs, sizes and vertices, and offsets of those
-- shapes and of placements; 2 a cell's name has 1 to 1,024 bytes from 20 to 7E hex; 3 a cell's number is given by a
-- CELLNAME record, which is looked at after END; 4 a magnification is 1 to 16; 5 an angle is a multiple of 90 degrees
-- from -360 to 360; 6 shapes on wanted pairs have only edges at multiples of 45 degrees; 7 CIRCLE and XGEOMETRY aren't on
-- wanted pairs; 8 a path on a wanted pair can be drawn; 9 START's version is 1.0 and its offset flag 0 or 1; 10 the
-- validation scheme is 0, 1 or 2; 11 a dimension of a repetition is at most 16,777,216.
use Rattle.std.specs.Prelude.{◌≡◌, ◌≤◌, ◌^◌, ℕ, IsTrue, Bool, List, [], ◌∷◌, Option, Some, None}
use Rattle.half_grid.specs.declared.plane.Point.{Point}
use Rattle.layout_model.specs.Names.{IsName}
use Rattle.layout_model.specs.declared.pair.Pair.{Pair}
use Rattle.oas_record.specs.Taken.{repetition_in}
use Rattle.oas_record.specs.declared.fields.Called.{Called}
use Rattle.oas_record.specs.declared.fields.Called.TheVariants.{Number, Text}
use Rattle.oas_record.specs.declared.fields.Deltas.{Deltas}
use Rattle.oas_record.specs.declared.records.NameKind.TheVariants as kinds
use Rattle.oas_record.specs.declared.records.OasRecord.{OasRecord}
use Rattle.oas_record.specs.declared.records.OasRecord.TheVariants as records
use Rattle.oas_record.specs.declared.records.Turn.{Turn}
use Rattle.oas_record.specs.declared.repetition.Rep.{Rep}
use Rattle.oas_record.specs.declared.shapes.ShapeHead.{ShapeHead}
use Rattle.oas_record.specs.declared.shapes.ShapeKind.{ShapeKind}
use Rattle.oas_record.specs.declared.shapes.ShapeKind.TheVariants as shapes
use Rattle.oas_shapes.specs.Repetitions.{HasDimensionsIn, offsets_in}
use Rattle.oas_shapes.specs.Rules.{AreNear, KeepsFigure, KeepsPolygon, KeepsOasisPath, IsLowest}
use Rattle.oas_shapes.specs.declared.figures.Brush.{Brush}
use Rattle.oas_shapes.specs.declared.figures.Figure.{Figure}
use Rattle.oas_fields.specs.Values.{polygon_points_of, path_points_of, placement_of, geometry_of, text_of, IsPlaceWithin}
use Rattle.oas_reader.specs.Items.{text_in}
use Rattle.oas_reader.specs.Meaning.{at_of, repetition_at, is_wanted, figure_of, brush_of}
use Rattle.oas_reader.specs.Reals.{IsOasisFactor, IsOasisAngle}

-- ---- by rule

-- all three positions are within 2^40 of 0
pub record ArePositionsNear (all : List OasRecord) : Type 0 where
  pub placement : IsPlaceWithin (2 ^ 40) (placement_of all)
  pub geometry : IsPlaceWithin (2 ^ 40) (geometry_of all)
  pub text : IsPlaceWithin (2 ^ 40) (text_of all)

-- a name that is written is one
abbrev pub IsNameWhereWritten : List ℕ → Option Called → Type 0
IsNameWhereWritten bytes None = Unit {0}
IsNameWhereWritten bytes (Some (Number number)) = Unit {0}
IsNameWhereWritten bytes (Some (Text first next)) = IsName (text_in bytes (first, next))

-- what is written of a cell's name
abbrev pub KeepsName : List ℕ → OasRecord → Type 0
KeepsName bytes (records.Name kinds.Cell text number) = IsName (text_in bytes text)
KeepsName bytes (records.Cell name) = IsNameWhereWritten bytes (Some name)
KeepsName bytes (records.Placement info cell turn x y repetition) = IsNameWhereWritten bytes cell
KeepsName bytes _ = Unit {0}

abbrev pub TurnKeepsMagnification : Option Turn → Type 0
TurnKeepsMagnification None = Unit {0}
TurnKeepsMagnification (Some turn) = IsOasisFactor turn.magnification

abbrev pub KeepsMagnification : OasRecord → Type 0
KeepsMagnification (records.Placement info cell turn x y repetition) = TurnKeepsMagnification turn
KeepsMagnification _ = Unit {0}

abbrev pub TurnKeepsAngle : Option Turn → Type 0
TurnKeepsAngle None = Unit {0}
TurnKeepsAngle (Some turn) = IsOasisAngle turn.angle

abbrev pub KeepsAngle : OasRecord → Type 0
KeepsAngle (records.Placement info cell turn x y repetition) = TurnKeepsAngle turn
KeepsAngle _ = Unit {0}

-- CIRCLE and XGEOMETRY
abbrev pub KeepsToOthers : Bool → OasRecord → Type 0
KeepsToOthers is_wanted (records.Shape head (shapes.Circle radius)) = IsTrue is_wanted → ⊥
KeepsToOthers is_wanted (records.Shape head (shapes.XGeometry attribute text)) = IsTrue is_wanted → ⊥
KeepsToOthers is_wanted _ = Unit {0}

-- 1.0
abbrev pub version : List ℕ
version = 0x31 ∷ 0x2E ∷ 0x30 ∷ []

abbrev pub KeepsVersion : List ℕ → OasRecord → Type 0
KeepsVersion bytes (records.Start span unit offset_flag tables) = (text_in bytes span ≡ version) × (offset_flag ≤ 1)
KeepsVersion bytes _ = Unit {0}

abbrev pub KeepsScheme : OasRecord → Type 0
KeepsScheme (records.End tables padding scheme validation) = scheme ≤ 2
KeepsScheme _ = Unit {0}

-- ---- what a record places or draws

abbrev pub KeepsOffsets : List OasRecord → OasRecord → Type 0
KeepsOffsets past (records.Placement info cell turn x y repetition) =
    AreNear (offsets_in (repetition_at past (records.Placement info cell turn x y repetition)))
KeepsOffsets past _ = Unit {0}

abbrev pub FigureKeeps : Option Figure → Point → Option Rep → ℕ → Type 0
FigureKeeps None at rep rule = Unit {0}
FigureKeeps (Some figure) at rep rule = KeepsFigure at figure rep rule

abbrev pub PolygonKeeps : Option Deltas → Point → Option Rep → ℕ → Type 0
PolygonKeeps None at rep rule = Unit {0}
PolygonKeeps (Some deltas) at rep rule = KeepsPolygon at deltas rep rule

abbrev pub PathKeeps : Option Deltas → Point → Brush → Option Rep → ℕ → Type 0
PathKeeps None at brush rep rule = Unit {0}
PathKeeps (Some deltas) at brush rep rule = KeepsOasisPath at brush deltas rep rule

abbrev pub KindKeeps : ShapeHead → ShapeKind → List OasRecord → Option Rep → ℕ → Type 0
KindKeeps head (shapes.Polygon points) all rep rule = PolygonKeeps (polygon_points_of all) (at_of all) rep rule
KindKeeps head (shapes.Path half_width extension start end points) all rep rule =
    PathKeeps (path_points_of all) (at_of all) (brush_of all) rep rule
KindKeeps head kind all rep rule = FigureKeeps (figure_of head kind all) (at_of all) rep rule

-- a shape on a wanted pair keeps rules 1, 6, 8 and 11
abbrev pub KeepsDrawn : OasRecord → List OasRecord → Option Rep → ℕ → Type 0
KeepsDrawn (records.Shape head kind) all rep rule = KindKeeps head kind all rep rule
KeepsDrawn _ all rep rule = Unit {0}

-- ---- all of them

-- a record, after its past, keeps the rule
pub record KeepsOasisRule (bytes : List ℕ) (wanted : List Pair) (past : List OasRecord) (r : OasRecord) (rule : ℕ) : Type 0 where
  pub positions : rule ≡ 1 → ArePositionsNear (r ∷ past)
  pub offsets : rule ≡ 1 → KeepsOffsets past r
  pub name : rule ≡ 2 → KeepsName bytes r
  pub magnification : rule ≡ 4 → KeepsMagnification r
  pub angle : rule ≡ 5 → KeepsAngle r
  pub other : rule ≡ 7 → KeepsToOthers (is_wanted wanted (r ∷ past)) r
  pub version : rule ≡ 9 → KeepsVersion bytes r
  pub scheme : rule ≡ 10 → KeepsScheme r
  pub dimension : rule ≡ 11 → HasDimensionsIn (repetition_in r)
  pub drawn : IsTrue (is_wanted wanted (r ∷ past)) → KeepsDrawn r (r ∷ past) (repetition_at past r) rule

abbrev pub KeepsOasisRules : List ℕ → List Pair → List OasRecord → OasRecord → Type 0
KeepsOasisRules bytes wanted past r = (rule : ℕ) → KeepsOasisRule bytes wanted past r rule

-- the lowest rule that the record breaks
abbrev pub IsLowestBrokenByItem : List ℕ → List Pair → List OasRecord → OasRecord → ℕ → Type 0
IsLowestBrokenByItem bytes wanted past r rule = IsLowest (KeepsOasisRule bytes wanted past r) rule
