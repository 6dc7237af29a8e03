-- Fields, and what of a list of shots is written into the fields of one stripe.
--
-- A mask writer exposes field by field, and no shot may cross a field's line. Fields are squares of one size. The field
-- (m, k) has the columns from m times the size up to below m + 1 times the size, and the rows from k times the size up to
-- below k + 1 times the size. Stripe k is all fields (m, k).
--
-- The stripe list of a list of shots is, for each shot in order and each field of the stripe from the left, the joined
-- list of the shot's tiles in the field. A field in which a shot has no tile gives nothing.
use Rattle.std.specs.Prelude.{ℤ, pos, ◌+ℤ◌, ◌*ℤ◌, ◌≤ℤ◌, ◌<ℤ◌, ◌≡◌, List, [], ◌∷◌, length}
use Rattle.std.specs.List.{AllZip}
use Rattle.half_grid.specs.JoinedLists.{IsJoined}
use Rattle.half_grid.specs.Trapezoids.{Trapezoid, IsInTrapezoid, CoversExactly}
use Rattle.half_grid.specs.Windows.{RowRange, row_range}
use Rattle.half_grid.specs.declared.plane.Tile.{Tile}
use Rattle.geo_stream.specs.Flattened.{end_to_end}

-- the sizes that fields may have, in half units
pub record IsFieldSize (size : ℤ) : Type 0 where
  pub least : pos 16 ≤ℤ size
  pub most : size ≤ℤ pos 16777216

-- the number lies from n times the size up to below n + 1 times the size
pub record IsInStretch (size n v : ℤ) : Type 0 where
  pub from : (n *ℤ size) ≤ℤ v
  pub below : v <ℤ ((n +ℤ pos 1) *ℤ size)

-- the tile is one of the field (m, k)
pub record IsInField (size m k : ℤ) (t : Tile) : Type 0 where
  pub column : IsInStretch size m t.i
  pub row : IsInStretch size k t.j

-- the rows of stripe k
abbrev pub stripe_rows : ℤ → ℤ → RowRange
stripe_rows size k = row_range (k *ℤ size) ((k +ℤ pos 1) *ℤ size)

-- the trapezoid's tiles in the field (m, k)
pub record IsInFieldPart (size m k : ℤ) (z : Trapezoid) (t : Tile) : Type 0 where
  pub inside : IsInTrapezoid z t
  pub field : IsInField size m k t

-- the joined list of these tiles in the window of the stripe's rows
pub record IsPartList (size m k : ℤ) (z : Trapezoid) (pieces : List Trapezoid) : Type 0 where
  pub joined : IsJoined (stripe_rows size k) pieces
  pub covers : CoversExactly pieces (IsInFieldPart size m k z)

-- the same of the field (m, k) and of those right of it, one after another
abbrev pub ArePartLists : ℤ → ℤ → ℤ → Trapezoid → List (List Trapezoid) → Type 0
ArePartLists size m k z [] = Unit {0}
ArePartLists size m k z (pieces ∷ lists) = IsPartList size m k z pieces × ArePartLists size (m +ℤ pos 1) k z lists

-- The pieces of a shot in stripe k: field by field from some first one on. The shot has no tile in the stripe's fields
-- left of these, and none in those right of them.
pub record AreShotPieces (size k : ℤ) (z : Trapezoid) (pieces : List Trapezoid) : Type 0 where
  pub first : ℤ
  pub lists : List (List Trapezoid)
  pub parts : ArePartLists size first k z lists
  pub none_left : (t : Tile) → IsInTrapezoid z t → IsInStretch size k t.j → (first *ℤ size) ≤ℤ t.i
  pub none_right : (t : Tile) → IsInTrapezoid z t → IsInStretch size k t.j → t.i <ℤ ((first +ℤ pos (length lists)) *ℤ size)
  pub is : pieces ≡ end_to_end lists

-- the stripe list of these shots for stripe k: the pieces of each shot in order
pub record IsStripeList (size k : ℤ) (shots pieces : List Trapezoid) : Type 0 where
  pub lists : List (List Trapezoid)
  pub each : AllZip (AreShotPieces size k) shots lists
  pub is : pieces ≡ end_to_end lists

-- the stripe lists of stripe k and of those above it, one after another
abbrev pub AreStripeLists : ℤ → ℤ → List Trapezoid → List (List Trapezoid) → Type 0
AreStripeLists size k shots [] = Unit {0}
AreStripeLists size k shots (pieces ∷ lists) = IsStripeList size k shots pieces × AreStripeLists size (k +ℤ pos 1) shots lists
