-- Numbers and deltas that stand one after the other, and point lists (SEMI P39 1.0, section 7, point lists).
--
-- A point list is a byte for its kind, the count of its stored deltas and the deltas. Kind 0 has 1-deltas, signed numbers
-- along x and y by turns, x first; kind 1 the same, y first; kind 2 has 2-deltas, kind 3 3-deltas, kinds 4 and 5
-- g-deltas. A polygon of kind 0 or 1 has an even count of at least 2, any other list a count of at least 1.
use Rattle.std.specs.Prelude.{ℕ, zero, suc, ◌+◌, ◌%◌, ◌<◌, ◌≡◌, ◌⊎◌, ℤ, pos, Bool, false, IsTrue, ◌&&◌, nat_eq, nat_lt}
use Rattle.std.specs.Prelude.{if◌then◌else◌, Option, Some, None, List, [], ◌∷◌, length, slice_index}
use Rattle.half_grid.specs.declared.plane.Point.{Point}
use Rattle.oas_lex.specs.Deltas.{move, HasDelta2, HasDelta3, HasDeltaG}
use Rattle.oas_lex.specs.Numbers.{HasUnsigned, HasSigned}
use Rattle.oas_record.specs.Faults.{NoNumber, NoBytes, NoDeltaG}
use Rattle.oas_record.specs.declared.faults.RecordBad.{RecordBad}
use Rattle.oas_record.specs.declared.faults.RecordBad.TheVariants as faults
use Rattle.oas_record.specs.declared.delta_form.DeltaForm.{DeltaForm}
use Rattle.oas_record.specs.declared.delta_form.DeltaForm.TheVariants.{AlongX, AlongY, TwoDelta, ThreeDelta, GDelta}
use Rattle.oas_record.specs.declared.fields.Deltas.{Deltas}

-- ---- numbers

-- these unsigned numbers stand from `at` up to before `next`
abbrev pub HasNumbers : List ℕ → ℕ → List ℕ → ℕ → Type 0
HasNumbers bytes at [] next = at ≡ next
HasNumbers bytes at (n ∷ ns) next = (mid : ℕ) × HasUnsigned bytes at n mid × HasNumbers bytes mid ns next

-- so many unsigned numbers don't stand at `at`: the first that fails, fails for this cause
abbrev pub NoNumbers : ℕ → List ℕ → ℕ → RecordBad → Type 0
NoNumbers zero bytes at bad = ⊥
NoNumbers (suc count) bytes at bad =
    NoNumber bytes at bad ⊎ ((n : ℕ) × (mid : ℕ) × HasUnsigned bytes at n mid × NoNumbers count bytes mid bad)

-- ---- deltas

-- the form of the next delta
abbrev pub turned : DeltaForm → DeltaForm
turned AlongX = AlongY
turned AlongY = AlongX
turned TwoDelta = TwoDelta
turned ThreeDelta = ThreeDelta
turned GDelta = GDelta

-- the delta stands from `at` up to before `next`
abbrev pub HasDelta : DeltaForm → List ℕ → ℕ → Point → ℕ → Type 0
HasDelta AlongX bytes at p next = (z : ℤ) × HasSigned bytes at z next × (p ≡ move z (pos 0))
HasDelta AlongY bytes at p next = (z : ℤ) × HasSigned bytes at z next × (p ≡ move (pos 0) z)
HasDelta TwoDelta bytes at p next = HasDelta2 bytes at p next
HasDelta ThreeDelta bytes at p next = HasDelta3 bytes at p next
HasDelta GDelta bytes at p next = HasDeltaG bytes at p next

abbrev pub NoDelta : DeltaForm → List ℕ → ℕ → RecordBad → Type 0
NoDelta AlongX bytes at bad = NoNumber bytes at bad
NoDelta AlongY bytes at bad = NoNumber bytes at bad
NoDelta TwoDelta bytes at bad = NoNumber bytes at bad
NoDelta ThreeDelta bytes at bad = NoNumber bytes at bad
NoDelta GDelta bytes at bad = NoDeltaG bytes at bad

-- these deltas stand from `at` up to before `next`
abbrev pub HasDeltas : DeltaForm → List ℕ → ℕ → List Point → ℕ → Type 0
HasDeltas form bytes at [] next = at ≡ next
HasDeltas form bytes at (p ∷ ps) next = (mid : ℕ) × HasDelta form bytes at p mid × HasDeltas (turned form) bytes mid ps next

-- so many deltas don't stand at `at`: the first that fails, fails for this cause
abbrev pub NoDeltas : DeltaForm → ℕ → List ℕ → ℕ → RecordBad → Type 0
NoDeltas form zero bytes at bad = ⊥
NoDeltas form (suc count) bytes at bad =
    NoDelta form bytes at bad ⊎ ((p : Point) × (mid : ℕ) × HasDelta form bytes at p mid × NoDeltas (turned form) count bytes mid bad)

-- ---- point lists

abbrev pub delta_form : ℕ → Option DeltaForm
delta_form kind =
    if nat_eq kind 0 then Some AlongX
    else if nat_eq kind 1 then Some AlongY
    else if nat_eq kind 2 then Some TwoDelta
    else if nat_eq kind 3 then Some ThreeDelta
    else if nat_lt kind 6 then Some GDelta
    else None

-- a list of this kind may have so many stored deltas
abbrev pub allows_count : Bool → ℕ → ℕ → Bool
allows_count is_polygon kind count =
    if is_polygon && nat_lt kind 2 then nat_lt 1 count && nat_eq (count % 2) 0 else nat_lt 0 count

-- the count and the deltas of a point list stand from `at` up to before `next`
pub record HasCounted (form : DeltaForm) (is_polygon : Bool) (kind : ℕ) (bytes : List ℕ) (at : ℕ) (items : List Point) (mid next : ℕ) : Type 0 where
  pub count : HasUnsigned bytes at (length items) mid
  pub allowed : IsTrue (allows_count is_polygon kind (length items))
  pub deltas : HasDeltas form bytes mid items next

abbrev pub HasPointsOf : Option DeltaForm → Bool → ℕ → List ℕ → ℕ → List Point → ℕ → Type 0
HasPointsOf (Some form) is_polygon kind bytes at items next = (mid : ℕ) × HasCounted form is_polygon kind bytes at items mid next
HasPointsOf None is_polygon kind bytes at items next = ⊥

-- the point list of a polygon or a path stands from `at` up to before `next`
pub record HasPoints (is_polygon : Bool) (bytes : List ℕ) (at : ℕ) (points : Deltas) (next : ℕ) : Type 0 where
  pub within : at < length bytes
  pub kind : points.kind ≡ slice_index bytes at
  pub rest : HasPointsOf (delta_form (slice_index bytes at)) is_polygon (slice_index bytes at) bytes (at + 1) points.items next

-- the count stands there, and what follows it fails: it isn't allowed, or a delta isn't there
abbrev pub CountedFails : DeltaForm → Bool → ℕ → List ℕ → ℕ → ℕ → RecordBad → Type 0
CountedFails form is_polygon kind bytes mid count bad =
    ((allows_count is_polygon kind count ≡ false) × (bad ≡ faults.Shape))
    ⊎ (IsTrue (allows_count is_polygon kind count) × NoDeltas form count bytes mid bad)

abbrev pub NoPointsOf : Option DeltaForm → Bool → ℕ → List ℕ → ℕ → RecordBad → Type 0
NoPointsOf (Some form) is_polygon kind bytes at bad =
    NoNumber bytes at bad
    ⊎ ((count : ℕ) × (mid : ℕ) × HasUnsigned bytes at count mid × CountedFails form is_polygon kind bytes mid count bad)
NoPointsOf None is_polygon kind bytes at bad = bad ≡ faults.Shape

-- no point list stands at `at`, for this cause: its kind isn't there, or its kind is and the rest isn't
pub record PointsFail (is_polygon : Bool) (bytes : List ℕ) (at : ℕ) (bad : RecordBad) : Type 0 where
  pub within : at < length bytes
  pub fails : NoPointsOf (delta_form (slice_index bytes at)) is_polygon (slice_index bytes at) bytes (at + 1) bad

abbrev pub NoPoints : Bool → List ℕ → ℕ → RecordBad → Type 0
NoPoints is_polygon bytes at bad = NoBytes bytes at 1 bad ⊎ PointsFail is_polygon bytes at bad
