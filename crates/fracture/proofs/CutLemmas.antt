-- The shots of a trapezoid have its tiles, each once, and each is legal, within reach and within the limits.
use Rattle.std.proofs.Common.{◌≡◌, ℤ, ◌+ℤ◌, ◌<ℤ◌, List, [], ◌∷◌, All, arith, refl}
use Rattle.std.proofs.lemmas.Int.{ints, clamps}
use Rattle.std.proofs.lemmas.List.Elements.{All-nil, All-cons, All-head, All-tail, All-append, All-weaker}
use Rattle.std.specs.List.{flat_map}
use Rattle.half_grid.specs.Trapezoids.{Trapezoid, IsShot, FitsLimits, box_width, count_in}
use Rattle.half_grid.specs.declared.plane.Tile.{Tile}
use Rattle.fracture.specs.Limits.{AreLimits}
use Rattle.fracture.specs.Cutting.{lowest_rows, rows_above, leftmost_part, part_beyond, cut_by_width, cut_list, shots_of}
use Rattle.fracture.proofs.PartLemmas.{IsLow, inside, lowest_is_low, left_is_shot, cut_is}
use Rattle.fracture.proofs.Recursions.{of_heights, of_widths}
use Rattle.fracture.proofs.TileLemmas.{counted_more, one_counted, count_in-append, rows_split, width_split, split_ones}

-- a shot within the limits
pub record IsFitting (height width : ℤ) (z : Trapezoid) : Type 0 where
  pub shot : IsShot z
  pub fits : FitsLimits height width z

module _ (height width : ℤ) (limits : AreLimits height width) where
  -- the tiles of a piece's shots
  pub same_in_piece : (t : Tile) (z : Trapezoid) → IsLow height z → count_in (cut_by_width width z) t ≡ count_in (z ∷ []) t
  same_in_piece t = of_widths height width limits (λ z parts. count_in parts t ≡ count_in (z ∷ []) t) (λ z s h. refl)
      (λ z parts s h same. counted_more z (leftmost_part width z) (part_beyond width z) parts t (width_split height width limits z s h t) same)

  abbrev same : Tile → Trapezoid → List Trapezoid → Type 0
  same t z pieces = count_in (flat_map (cut_by_width width) pieces) t ≡ count_in (z ∷ []) t

  pub same_tiles : (t : Tile) (z : Trapezoid) → IsShot z → count_in (cut_list height width z) t ≡ count_in (z ∷ []) t
  same_tiles t = of_heights height width limits (same t)
      (λ z s h. (let piece = same_in_piece t z (record { shot = s; low = h }) in let all = count_in-append
      (cut_by_width width z) [] t in omega (arith, piece, all)))
      (λ z pieces s h rest. (let low = lowest_is_low height width limits z s h in
      let piece = same_in_piece t (lowest_rows height z) low in
      let all = count_in-append (cut_by_width width (lowest_rows height z)) (flat_map (cut_by_width width) pieces) t in
      let both = inside height width limits z h in
      let split = split_ones z (lowest_rows height z) (rows_above height z) t (rows_split z (z.y0 +ℤ height) t both.0 both.1) in
      omega (arith, piece, all, rest, split, one_counted (lowest_rows height z) t, one_counted (rows_above height z) t, one_counted z t)))

  -- each fits
  left_fits : (z : Trapezoid) → IsLow height z → width <ℤ box_width z → IsFitting height width (leftmost_part width z)
  left_fits z s h =
      let c = cut_is height width limits z s h in
      record {
        shot = left_is_shot height width limits z s h;
        fits =
            record { not_too_high = s.low; not_too_wide = (let n = c.narrow in omega (arith, ints, clamps)) };
      }

  pub piece_fits : (z : Trapezoid) → IsLow height z → All (IsFitting height width) (cut_by_width width z)
  piece_fits = of_widths height width limits (λ z parts. All (IsFitting height width) parts)
      (λ z s h. All-cons (IsFitting height width) z []
      (record { shot = s.shot; fits = record { not_too_high = s.low; not_too_wide = h } })
      (All-nil (IsFitting height width)))
      (λ z parts s h rest. All-cons (IsFitting height width) (leftmost_part width z) parts (left_fits z s h) rest)

  pub all_fit : (z : Trapezoid) → IsShot z → All (IsFitting height width) (cut_list height width z)
  all_fit = of_heights height width limits (λ z pieces. All (IsFitting height width) (flat_map (cut_by_width width) pieces))
      (λ z s h. All-append (IsFitting height width) (cut_by_width width z) [] (piece_fits z (record { shot = s; low = h })) (All-nil (IsFitting height width)))
      (λ z pieces s h rest. All-append (IsFitting height width) (cut_by_width width (lowest_rows height z))
      (flat_map (cut_by_width width) pieces)
      (piece_fits (lowest_rows height z) (lowest_is_low height width limits z s h)) rest)

  pub are_shots : (z : Trapezoid) → IsShot z → All IsShot (cut_list height width z)
  are_shots z s = All-weaker (IsFitting height width) IsShot (λ y f. f.shot) (cut_list height width z) (all_fit z s)

  pub fit_limits : (z : Trapezoid) → IsShot z → All (FitsLimits height width) (cut_list height width z)
  fit_limits z s = All-weaker (IsFitting height width) (FitsLimits height width) (λ y f. f.fits) (cut_list height width z) (all_fit z s)

  -- ---- lists of trapezoids

  pub same_tiles_of_list : (t : Tile) (traps : List Trapezoid) → All IsShot traps → count_in (shots_of height width traps) t ≡ count_in traps t
  same_tiles_of_list t [] s = refl
  same_tiles_of_list t (z ∷ traps) s =
      let first = same_tiles t z (All-head IsShot z traps s) in
      let later = same_tiles_of_list t traps (All-tail IsShot z traps s) in
      omega (arith, first, later, count_in-append (cut_list height width z) (shots_of height width traps) t, count_in-append (z ∷ []) traps t)

  all_of_list : (P : Trapezoid → Type 0) → ((z : Trapezoid) → IsShot z → All P (cut_list height width z))
      → (traps : List Trapezoid) → All IsShot traps → All P (shots_of height width traps)
  all_of_list P h [] s = All-nil P
  all_of_list P h (z ∷ traps) s = All-append P (cut_list height width z) (shots_of height width traps)
      (h z (All-head IsShot z traps s)) (all_of_list P h traps (All-tail IsShot z traps s))

  pub list_of_shots : (traps : List Trapezoid) → All IsShot traps → All IsShot (shots_of height width traps)
  list_of_shots = all_of_list IsShot are_shots

  pub list_fits : (traps : List Trapezoid) → All IsShot traps → All (FitsLimits height width) (shots_of height width traps)
  list_fits = all_of_list (FitsLimits height width) fit_limits
