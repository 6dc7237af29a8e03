-- The rectangle of each segment has tiles, where the half width is above 0 and neither end is empty.
use Rattle.std.proofs.Common.{◌≡◌, ℤ, pos, ◌+ℤ◌, ◌≤ℤ◌, ◌<ℤ◌, ◌-◌, suc, List, [], ◌∷◌, length, map, All, slice_get, refl, arith}
use Rattle.std.specs.Prelude.{IsSomeAnd}
use Rattle.std.proofs.lemmas.Int.{ints, by_lt_z}
use Rattle.std.proofs.lemmas.List.Elements.{All-cons, All-nil}
use Rattle.half_grid.specs.declared.plane.Point.{Point}
use Rattle.layout_model.specs.declared.directions.Direction.{Direction}
use Rattle.layout_model.specs.declared.directions.Direction.TheVariants.{Still, East, West, North, South}
use Rattle.layout_model.specs.declared.stretches.Stretch.{Stretch}
use Rattle.layout_model.specs.Paths.{direction_of, distance_along, length_of, IsEmpty, extended, stretch, rectangle_along, rectangle_of}
use Rattle.layout_model.specs.PathBounds.{HasTiles}
use Rattle.layout_model.proofs.DirectionLemmas.{distance_low, still_x}

pub above_zero : (z : ℤ) → pos 0 ≤ℤ z → (z ≡ pos 0 → ⊥) → pos 0 <ℤ z
above_zero z low other = by_lt_z (pos 0) z (λ h. h) (λ h. absurd (let zero : z ≡ pos 0 = omega (arith, ints, low, h) in other zero))

-- a length in a direction
abbrev length_along : Direction → Stretch → ℤ
length_along d s = (distance_along d s.from s.to +ℤ s.before) +ℤ s.after

tiles_along : (s : Stretch) (d : Direction) → direction_of s.from s.to ≡ d → pos 0 <ℤ s.half → pos 0 <ℤ length_along d s → HasTiles (rectangle_along d s)
tiles_along s Still e half long = let x = still_x s.from s.to e in
    record { columns = omega (arith, ints, half, long, x); rows = omega (arith, ints, half, long) }
tiles_along s East e half long = record { columns = omega (arith, ints, half, long); rows = omega (arith, ints, half, long) }
tiles_along s West e half long = record { columns = omega (arith, ints, half, long); rows = omega (arith, ints, half, long) }
tiles_along s North e half long = record { columns = omega (arith, ints, half, long); rows = omega (arith, ints, half, long) }
tiles_along s South e half long = record { columns = omega (arith, ints, half, long); rows = omega (arith, ints, half, long) }

tiles_of : (s : Stretch) → pos 0 <ℤ s.half → (IsEmpty s → ⊥) → HasTiles (rectangle_of s)
tiles_of s half some = tiles_along s (direction_of s.from s.to) refl half (by_lt_z (pos 0) (length_of s) (λ long. long) (λ short. absurd (some short)))

-- a segment between two others is longer by the width
inner_some : (half : ℤ) (segment : Point × Point) → pos 0 <ℤ half → IsEmpty (stretch half half half segment) → ⊥
inner_some half segment h short =
    let low = distance_low segment.0 segment.1 (direction_of segment.0 segment.1) refl in
    absurd (omega (arith, ints, low, h, short))

last_of : (x y : Stretch) (rest : List Stretch) → slice_get (x ∷ y ∷ rest) (length (x ∷ y ∷ rest) - 1) ≡ slice_get (y ∷ rest) (length (y ∷ rest) - 1)
last_of x y rest =
    let more : length (x ∷ y ∷ rest) - 1 ≡ suc (length rest) = omega arith in
    let less : length (y ∷ rest) - 1 ≡ length rest = omega arith in
    rw (more, less) refl

pub all_tiles : (half before end : ℤ) (segments : List (Point × Point)) → pos 0 <ℤ half
    → (IsSomeAnd (slice_get (extended half before end segments) 0) IsEmpty → ⊥)
    → (IsSomeAnd (slice_get (extended half before end segments) (length (extended half before end segments) - 1)) IsEmpty → ⊥)
    → All HasTiles (map rectangle_of (extended half before end segments))
all_tiles half before end [] h first last = All-nil HasTiles
all_tiles half before end (s ∷ []) h first last =
    let one = stretch half before end s in
    All-cons HasTiles (rectangle_of one) [] (tiles_of one h first) (All-nil HasTiles)
all_tiles half before end (s ∷ t ∷ []) h first last =
    let one = stretch half before half s in
    let rest = extended half half end (t ∷ []) in
    All-cons HasTiles (rectangle_of one) (map rectangle_of rest) (tiles_of one h first) (all_tiles half half end (t ∷ []) h last last)
all_tiles half before end (s ∷ t ∷ u ∷ segments) h first last =
    let one = stretch half before half s in
    let two = stretch half half half t in
    let rest = extended half half end (u ∷ segments) in
    All-cons HasTiles (rectangle_of one) (map rectangle_of (two ∷ rest)) (tiles_of one h first)
    (all_tiles half half end (t ∷ u ∷ segments) h (inner_some half t h) (λ empty. last (rw (last_of one two rest) empty)))
