-- The files of stripes. For each stripe from the least that a shot meets to the greatest, empty ones too, there is a file
-- whose name is a base, a point and the number of the stripe in decimal, with a minus sign where it is negative. It holds
-- the one text of a shot file of the stripe list, with one unit and one pair for all files.
use Rattle.std.specs.Prelude.{ℕ, ℤ, pos, ◌≡◌, ◌+ℤ◌, ◌≤ℤ◌, List, [], ◌∷◌, ◌++◌, length, codes}
use Rattle.std.specs.Fmt.{signed_decimal}
use Rattle.depot.specs.Content.{Content, with_file, IsPartMade}
use Rattle.field_output.specs.declared.sums.StripeSums.{StripeSums}
use Rattle.field_output.specs.declared.sums.Stripes.{Stripes}
use Rattle.field_split.specs.Fields.{AreStripeLists}
use Rattle.geo_stream.specs.Flattened.{end_to_end}
use Rattle.half_grid.specs.Trapezoids.{Trapezoid}
use Rattle.oas_lex.specs.ShotText.{shot_text}
use Rattle.shot_writer.specs.Writing.{triangles_of}
use Rattle.shot_writer.specs.declared.parts.Head.{Head}
use Rattle.shot_writer.specs.declared.parts.Sums.{Sums}

-- the name of the file of stripe k
abbrev pub stripe_name : List ℕ → ℤ → List ℕ
stripe_name base k = base ++ codes "." ++ signed_decimal k

-- the text of a shot file with these pieces
abbrev pub stripe_text : Head → List Trapezoid → List ℕ
stripe_text head pieces = shot_text head.unit head.pair.layer head.pair.datatype pieces

-- the files of stripe k and of those above it with these pieces, made one after another
abbrev pub with_stripe_files : Content → List ℕ → Head → ℤ → List (List Trapezoid) → Content
with_stripe_files content base head k [] = content
with_stripe_files content base head k (pieces ∷ lists) =
    with_stripe_files (with_file content (stripe_name base k) (stripe_text head pieces)) base head (k +ℤ pos 1) lists

-- the stripe lists of all stripes from `first` to `last`
pub record AreAllStripeLists (shots : List Trapezoid) (size first last : ℤ) (lists : List (List Trapezoid)) : Type 0 where
  pub each : AreStripeLists size first shots lists
  pub number : (first +ℤ pos (length lists)) ≡ (last +ℤ pos 1)

-- The files of all stripes are made in order, each whole, and nothing else has changed.
pub record AreStripesWritten (before : Content) (base : List ℕ) (head : Head) (shots : List Trapezoid) (size first last : ℤ) (after : Content) : Type 0 where
  pub lists : List (List Trapezoid)
  pub stripes : AreAllStripeLists shots size first last lists
  pub files : after ≡ with_stripe_files before base head first lists

-- The files of some first stripes are made in order, each whole. That of the next is as before, or holds a prefix of its
-- text. Nothing else has changed but the name that writes go to.
pub record AreStripesPartWritten (before : Content) (base : List ℕ) (head : Head) (shots : List Trapezoid) (size first last : ℤ)
    (after : Content) : Type 0 where
  pub whole : List (List Trapezoid)
  pub begun : List Trapezoid
  pub stripes : AreStripeLists size first shots (whole ++ begun ∷ [])
  pub within : (first +ℤ pos (length whole)) ≤ℤ last
  pub files : IsPartMade (with_stripe_files before base head first whole) (stripe_name base (first +ℤ pos (length whole))) (stripe_text head begun) after

-- how many pieces these are, and how many triangles they have
abbrev pub sums_of : List Trapezoid → Sums
sums_of pieces = record { shots = length pieces; triangles = triangles_of pieces }

-- the same of stripe k and of those above it
abbrev pub sums_from : ℤ → List (List Trapezoid) → List StripeSums
sums_from k [] = []
sums_from k (pieces ∷ lists) = record { number = k; sums = sums_of pieces } ∷ sums_from (k +ℤ pos 1) lists

-- these are the sums of the stripe lists of all stripes, of each and of all together
pub record AreStripeSums (shots : List Trapezoid) (size first last : ℤ) (written : Stripes) : Type 0 where
  pub lists : List (List Trapezoid)
  pub stripes : AreAllStripeLists shots size first last lists
  pub each : written.each.items ≡ sums_from first lists
  pub all : written.all ≡ sums_of (end_to_end lists)
