-- A shot file is its head, the records of its shots in order, and its end. Shots are put bit by bit: each piece of the
-- list appends its records. What is summed up are the shots and their triangles.
use Rattle.std.specs.Prelude.{ℕ, ◌≡◌, ◌+◌, ◌-ℤ◌, ◌+ℤ◌, ◌*ℤ◌, List, ◌++◌, length, flat_map, sum_by, unsigned_abs}
use Rattle.depot.specs.Content.{Content, with_written}
use Rattle.half_grid.specs.Trapezoids.{Trapezoid, bottom_of, top_of}
use Rattle.oas_lex.specs.ShotText.{spelling_of}
use Rattle.layout_model.specs.declared.pair.Pair.{Pair}
use Rattle.shot_writer.specs.declared.parts.Sums.{Sums}

-- the number of a shot's triangles: its height times the sum of the lengths of its parallel sides
abbrev pub triangles_in : Trapezoid → ℕ
triangles_in z = unsigned_abs ((z.y1 -ℤ z.y0) *ℤ (bottom_of z +ℤ top_of z))

-- the number of the triangles of all shots of a list
abbrev pub triangles_of : List Trapezoid → ℕ
triangles_of shots = sum_by triangles_in shots

-- the records of shots, one after another
abbrev pub records_of : Pair → List Trapezoid → List ℕ
records_of pair shots = flat_map (spelling_of pair.layer pair.datatype) shots

-- the sums of nothing
abbrev pub no_sums : Sums
no_sums = record { shots = 0; triangles = 0 }

-- the sums after these shots
pub record AreSumsAfter (before : Sums) (items : List Trapezoid) (sums : Sums) : Type 0 where
  pub shots : sums.shots ≡ before.shots + length items
  pub triangles : sums.triangles ≡ before.triangles + triangles_of items

-- of these bytes all were written but the last, which are held back
pub record IsWrittenButFor (before : Content) (bytes held : List ℕ) (now : Content) : Type 0 where
  pub written : List ℕ
  pub content : now ≡ with_written before written
  pub whole : written ++ held ≡ bytes

-- the stream stands for a suffix of the items
pub record StandsForSuffix {S A : Type 0} (stands_for : S → List A → Type 0) (items : List A) (stream : S) : Type 0 where
  pub front : List A
  pub rest : List A
  pub split : items ≡ front ++ rest
  pub stands : stands_for stream rest
