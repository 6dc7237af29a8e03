-- What the records of a file say (GDSII Stream Format Manual 6.0, record description), and the rules that their values
-- must keep. Lengths are half units: a coordinate of the file counts two of them.
use Rattle.std.specs.Prelude.{◌≡◌, ◌≢◌, ◌⊎◌, ◌<◌, ◌≤◌, ◌+◌, ◌-◌, ◌*◌, ◌/◌, ◌^◌, ◌==◌, ℕ, ℤ, pos, ◌-ℤ◌, ◌*ℤ◌}
use Rattle.std.specs.Prelude.{unsigned_abs, int_lt, bit_and, Bool, if◌then◌else◌, List, [], ◌∷◌, Option, Some, None}
use Rattle.std.specs.Prelude.{length, map, slice_range, IsTrue}
use Rattle.std.specs.List.{range_with_len, list_any}
use Rattle.half_grid.specs.Halves.{twice}
use Rattle.half_grid.specs.Outlines.{IsClosed, HasGridEdges}
use Rattle.half_grid.specs.declared.plane.Point.{Point}
use Rattle.layout_model.specs.Names.{IsName}
use Rattle.layout_model.specs.Pairs.{same_pair}
use Rattle.layout_model.specs.Paths.{IsDrawable}
use Rattle.layout_model.specs.Turns.{turns_by, IsFactorBy, IsQuarterAngleBy}
use Rattle.layout_model.specs.declared.pair.Pair.{Pair}
use Rattle.gds_record.specs.Numbers.{number_at, signed_at}
use Rattle.gds_record.specs.Reals.{sign_of, exponent_of, fraction_of, IsWholeGdsiiReal}
use Rattle.gds_record.specs.declared.kinds.Kind.{Kind}
use Rattle.gds_record.specs.declared.kinds.Kind.TheVariants.{StrName, Boundary, Path, Sref, Aref, Layer, DataType}
use Rattle.gds_record.specs.declared.kinds.Kind.TheVariants.{Width, Xy, Sname, ColRow, Strans, Mag, Angle, PathType}
use Rattle.gds_record.specs.declared.kinds.Kind.TheVariants.{BgnExtn, EndExtn, Format}
use Rattle.gds_record.specs.declared.records.Record.{Record}
use Rattle.gds_reader.specs.Past.{element_kind, own_record}

-- ---- the numbers of an element: 0 where it hasn't the record

abbrev pub number2_in : List ℕ → Option Record → ℕ
number2_in bytes None = 0
number2_in bytes (Some r) = number_at 2 bytes r.first

abbrev pub signed4_in : List ℕ → Option Record → ℤ
signed4_in bytes None = pos 0
signed4_in bytes (Some r) = signed_at 4 bytes r.first

abbrev pub real_in : List ℕ → Option Record → ℕ
real_in bytes None = 0
real_in bytes (Some r) = number_at 8 bytes r.first

-- LAYER and DATATYPE, without a sign (this program's choice)
abbrev pub pair_of : List ℕ → List Record → Pair
pair_of bytes past = record {
  layer = number2_in bytes (own_record Layer past);
  datatype = number2_in bytes (own_record DataType past);
}

-- the element's pair is among the wanted ones
abbrev pub is_wanted : List ℕ → List Pair → List Record → Bool
is_wanted bytes wanted past = list_any (same_pair (pair_of bytes past)) wanted

abbrev pub IsPairWanted : List ℕ → List Pair → List Record → Type 0
IsPairWanted bytes wanted past = IsTrue (is_wanted bytes wanted past)

-- ---- names

-- the bytes without the NULs at their end
abbrev pub before_nuls : ℕ → List ℕ → List ℕ
before_nuls byte [] = if byte == 0 then [] else byte ∷ []
before_nuls byte (next ∷ bytes) = byte ∷ next ∷ bytes

abbrev pub without_nuls : List ℕ → List ℕ
without_nuls [] = []
without_nuls (byte ∷ bytes) = before_nuls byte (without_nuls bytes)

-- the name in a record of text
abbrev pub name_in : List ℕ → Record → List ℕ
name_in bytes r = without_nuls (slice_range bytes r.first r.next)

-- ---- points

abbrev pub point_at : List ℕ → ℕ → Point
point_at bytes at = record { x = twice (signed_at 4 bytes at); y = twice (signed_at 4 bytes (at + 4)) }

-- so many points, one after another
abbrev pub points_from : List ℕ → ℕ → ℕ → List Point
points_from bytes at count = map (λ k. point_at bytes (at + 8 * k)) (range_with_len 0 count)

-- the points of an XY record
abbrev pub points_in : List ℕ → Record → List Point
points_in bytes r = points_from bytes r.first ((r.next - r.first) / 8)

-- ---- paths

abbrev pub half_width_of : List ℕ → List Record → ℤ
half_width_of bytes past = pos (unsigned_abs (signed4_in bytes (own_record Width past)))

-- a WIDTH below 0 is absolute: no magnification changes it
abbrev pub is_absolute : List ℕ → List Record → Bool
is_absolute bytes past = int_lt (signed4_in bytes (own_record Width past)) (pos 0)

-- how far the path goes beyond a point at its end: not at all where it is flush (0), half its width where it is square
-- (2), and by BGNEXTN or ENDEXTN, which is handed in, where it is of type 4
abbrev pub extension : ℕ → ℤ → ℤ → ℤ
extension type half_width written = if type == 2 then half_width else if type == 4 then twice written else pos 0

abbrev pub extension_of : Kind → List ℕ → List Record → ℤ
extension_of kind bytes past =
    extension (number2_in bytes (own_record PathType past)) (half_width_of bytes past)
    (signed4_in bytes (own_record kind past))

-- ---- reals

-- the absolute value of a real, rounded down
unfoldable pub magnitude_of : ℕ → ℕ
magnitude_of bits = (fraction_of bits * 16 ^ exponent_of bits) / (16 ^ 64 * 2 ^ 56)

-- MAG: 1 where the element has none
abbrev pub factor_in : List ℕ → Option Record → ℕ
factor_in bytes None = 1
factor_in bytes (Some r) = magnitude_of (number_at 8 bytes r.first)

abbrev pub turns_in : List ℕ → Option Record → ℕ
turns_in bytes None = 0
turns_in bytes (Some r) =
    let bits = number_at 8 bytes r.first in
    turns_by (sign_of bits) (magnitude_of bits / 90)

-- a whole number from 1 to 16
abbrev pub IsGdsiiFactor : ℕ → Type 0
IsGdsiiFactor bits = IsFactorBy (IsWholeGdsiiReal bits)

-- a multiple of 90 from -360 to 360
abbrev pub IsGdsiiAngle : ℕ → Type 0
IsGdsiiAngle bits = IsQuarterAngleBy (IsWholeGdsiiReal bits)

-- ---- arrays

abbrev pub columns_in : List ℕ → Option Record → ℕ
columns_in bytes None = 0
columns_in bytes (Some r) = number_at 2 bytes r.first

abbrev pub rows_in : List ℕ → Option Record → ℕ
rows_in bytes None = 0
rows_in bytes (Some r) = number_at 2 bytes (r.first + 2)

abbrev pub columns_of : List ℕ → List Record → ℕ
columns_of bytes past = columns_in bytes (own_record ColRow past)

abbrev pub rows_of : List ℕ → List Record → ℕ
rows_of bytes past = rows_in bytes (own_record ColRow past)

-- a number from 1 to 32,767
abbrev pub IsCount : ℕ → Type 0
IsCount n = (1 ≤ n) × (n ≤ 32767)

-- the step is the move from one point to another over the count
pub record IsStep (count : ℕ) (from to step : Point) : Type 0 where
  pub x : pos count *ℤ step.x ≡ to.x -ℤ from.x
  pub y : pos count *ℤ step.y ≡ to.y -ℤ from.y

-- a whole number of units of the file
abbrev pub IsWholeUnits : Point → Type 0
IsWholeUnits p = (half : Point) × (p.x ≡ twice half.x) × (p.y ≡ twice half.y)

-- the move from one point to another is so many steps of whole units; there are some
abbrev pub Divides : ℕ → Point → Point → Type 0
Divides count from to = (1 ≤ count) × ((step : Point) × IsStep count from to step × IsWholeUnits step)

-- both moves of an array divide exactly
abbrev pub HasSteps : ℕ → ℕ → List Point → Type 0
HasSteps columns rows (origin ∷ right ∷ up ∷ []) = Divides columns origin right × Divides rows origin up
HasSteps columns rows _ = ⊥

-- ---- the rules: what must hold, by their numbers

abbrev pub IsReference : List Record → Type 0
IsReference past = (element_kind past ≡ Some Sref) ⊎ (element_kind past ≡ Some Aref)

-- the XY of an SREF with these points keeps the rule
abbrev pub KeepsSref : List Point → ℕ → Type 0
KeepsSref points rule = rule ≡ 7 → length points ≡ 1

-- that of an AREF
pub record KeepsAref (columns rows : ℕ) (points : List Point) (rule : ℕ) : Type 0 where
  pub three : rule ≡ 8 → length points ≡ 3
  pub steps : rule ≡ 9 → length points ≡ 3 → HasSteps columns rows points

-- that of a BOUNDARY: each edge is horizontal, vertical or has equal moves in x and y
pub record KeepsBoundary (points : List Point) (rule : ℕ) : Type 0 where
  pub count : rule ≡ 10 → (4 ≤ length points) × (length points ≤ 8191)
  pub closed : rule ≡ 11 → IsClosed points
  pub edges : rule ≡ 12 → HasGridEdges points

-- that of a PATH: one without width can be anywhere
abbrev pub KeepsGdsiiPath : ℤ → ℤ → ℤ → List Point → ℕ → Type 0
KeepsGdsiiPath half_width begin end points rule = rule ≡ 14 → half_width ≢ pos 0 → IsDrawable points half_width begin end

-- that of an element of this kind; shapes must keep rules on the wanted pairs alone
abbrev pub KeepsXy : List ℕ → List Pair → List Record → List Point → Option Kind → ℕ → Type 0
KeepsXy bytes wanted past points (Some Sref) rule = KeepsSref points rule
KeepsXy bytes wanted past points (Some Aref) rule = KeepsAref (columns_of bytes past) (rows_of bytes past) points rule
KeepsXy bytes wanted past points (Some Boundary) rule = IsPairWanted bytes wanted past → KeepsBoundary points rule
KeepsXy bytes wanted past points (Some Path) rule = IsPairWanted bytes wanted past
    → KeepsGdsiiPath (half_width_of bytes past) (extension_of BgnExtn bytes past) (extension_of EndExtn bytes past) points rule
KeepsXy bytes wanted past points _ rule = Unit {0}

-- a record of this kind, after its past, keeps the rule
abbrev pub KeepsAs : Kind → List ℕ → List Pair → List Record → Record → ℕ → Type 0
KeepsAs Format bytes wanted past r rule = rule ≡ 1 → number_at 2 bytes r.first ≡ 0
KeepsAs StrName bytes wanted past r rule = rule ≡ 2 → IsName (name_in bytes r)
KeepsAs Sname bytes wanted past r rule = rule ≡ 2 → IsName (name_in bytes r)
KeepsAs Strans bytes wanted past r rule = rule ≡ 3 → IsReference past → bit_and (number_at 2 bytes r.first) 0x0006 ≡ 0
KeepsAs Mag bytes wanted past r rule = rule ≡ 4 → IsReference past → IsGdsiiFactor (number_at 8 bytes r.first)
KeepsAs Angle bytes wanted past r rule = rule ≡ 5 → IsReference past → IsGdsiiAngle (number_at 8 bytes r.first)
KeepsAs ColRow bytes wanted past r rule =
    rule ≡ 6 → IsCount (number_at 2 bytes r.first) × IsCount (number_at 2 bytes (r.first + 2))
KeepsAs PathType bytes wanted past r rule = rule ≡ 13 → element_kind past ≡ Some Path → IsPairWanted bytes wanted past
    → (number_at 2 bytes r.first ≡ 0) ⊎ (number_at 2 bytes r.first ≡ 2) ⊎ (number_at 2 bytes r.first ≡ 4)
KeepsAs Xy bytes wanted past r rule = KeepsXy bytes wanted past (points_in bytes r) (element_kind past) rule
KeepsAs _ bytes wanted past r rule = Unit {0}

abbrev pub KeepsGdsiiRule : List ℕ → List Pair → List Record → Record → ℕ → Type 0
KeepsGdsiiRule bytes wanted past r rule = KeepsAs r.kind bytes wanted past r rule

-- the record keeps all rules
abbrev pub KeepsGdsiiRules : List ℕ → List Pair → List Record → Record → Type 0
KeepsGdsiiRules bytes wanted past r = (rule : ℕ) → KeepsGdsiiRule bytes wanted past r rule

-- this rule isn't kept, and those with lower numbers are
pub record IsLowest (Kept : ℕ → Type 0) (rule : ℕ) : Type 0 where
  pub broken : ¬ Kept rule
  pub lower : (other : ℕ) → other < rule → Kept other

-- the lowest rule that the record breaks
abbrev pub IsLowestBrokenByRecord : List ℕ → List Pair → List Record → Record → ℕ → Type 0
IsLowestBrokenByRecord bytes wanted past r rule = IsLowest (KeepsGdsiiRule bytes wanted past r) rule
