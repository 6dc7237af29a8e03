-- What the entries of a cell stand for. This is for the contracts of the table's own functions.
use Rattle.std.specs.Prelude.{◌≡◌, ℕ, zero, suc, List, [], ◌∷◌, replicate}
use Rattle.std.specs.List.{flat_map}
use Rattle.half_grid.specs.Trapezoids.{Trapezoid}

-- the pieces of a shape, and so many shapes after it that have none
pub record Entry : Type 0 where
  pub pieces : List Trapezoid
  pub more : ℕ

-- the pieces of one shape
abbrev pub alone : List Trapezoid → Entry
alone pieces = record { pieces = pieces; more = 0 }

-- no pieces, of a shape and of so many more
abbrev pub bare_ones : ℕ → Entry
bare_ones more = record { pieces = []; more = more }

-- no pieces of one shape
abbrev pub bare : Entry
bare = bare_ones 0

abbrev pub lists_of : Entry → List (List Trapezoid)
lists_of entry = entry.pieces ∷ replicate entry.more []

abbrev pub all_lists : List Entry → List (List Trapezoid)
all_lists entries = flat_map lists_of entries

-- each of the first so many entries is there, and stands for one shape
abbrev pub AreSingle : ℕ → List Entry → Type 0
AreSingle zero entries = Unit {0}
AreSingle (suc count) [] = ⊥
AreSingle (suc count) (entry ∷ entries) = (entry.more ≡ 0) × AreSingle count entries
