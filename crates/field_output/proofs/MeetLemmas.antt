-- Shots that don't meet a stripe have no pieces there, so those that meet it have the same pieces as all.
use Rattle.std.proofs.Common.{◌≡◌, ℕ, ℤ, pos, ◌+ℤ◌, ◌-ℤ◌, ◌*ℤ◌, ◌<ℤ◌, ◌≤ℤ◌, ◌≤◌, Bool, true, false}
use Rattle.std.proofs.Common.{cond, ◌&&◌, nat_le, List, [], ◌∷◌, ◌++◌, All, refl, ap, sym, ◌∙◌, arith}
use Rattle.std.proofs.lemmas.Bool.Decides.{nat_tests}
use Rattle.std.proofs.lemmas.Int.{ints, clamps, by_lt_z}
use Rattle.std.proofs.lemmas.List.Elements.{All-head, All-tail}
use Rattle.std.specs.Int.{int_div_euclid}
use Rattle.std.specs.List.{filter}
use Rattle.std.specs.Prelude.{int_lt}
use Rattle.half_grid.specs.Trapezoids.{Trapezoid, IsShot}
use Rattle.field_split.specs.Cutting.{in_stripe, pieces_of, pieces_of_shot}
use Rattle.field_split.proofs.ForCallers.{fewer, stretch_of}
use Rattle.field_output.specs.Meeting.{IsPlaced, begin_at, end_at, meets}
use Rattle.field_output.proofs.PlaceLemmas.{above}

lt_no : (a b : ℤ) → b ≤ℤ a → int_lt a b ≡ false
lt_no a b h = grind (arith, ints)

both_hold : (b e s : ℕ) → b ≤ s → s ≤ e → nat_le b s && nat_le s e ≡ true
both_hold b e s p q = grind (arith, nat_tests)

not_both : (t : Bool) → t ≡ true → t ≡ false → ⊥
not_both t p q = cc

no_pieces : (size k : ℤ) (z : Trapezoid) → ((in_stripe size k z).y0 <ℤ (in_stripe size k z).y1 → ⊥) → pieces_of_shot size k z ≡ []
unfolding pieces_of_shot
no_pieces size k z h =
    by_lt_z (in_stripe size k z).y0 (in_stripe size k z).y1 (λ lt. absurd (h lt)) (λ le. rw (lt_no _ _ le) refl)

module _ (size first : ℤ) (count : ℕ) (some : pos 0 <ℤ size) (place : ℕ) where
  -- a shot that has rows in the stripe meets it
  rows_meet : (z : Trapezoid) → IsShot z → IsPlaced size first count z → (in_stripe size (first +ℤ pos place) z).y0 <ℤ (in_stripe size
      (first +ℤ pos place) z).y1 → meets size first place z ≡ true
  rows_meet z shot placed rows =
      let k = first +ℤ pos place in
      let q = int_div_euclid z.y0 size in
      let r = int_div_euclid (z.y1 -ℤ pos 1) size in
      let low = above size first z.y0 count some placed.low in
      let s = stretch_of size z.y0 some in
      let t = stretch_of size (z.y1 -ℤ pos 1) some in
      let up : z.y0 <ℤ ((k +ℤ pos 1) *ℤ size) = omega (arith, ints, clamps, rows) in
      let down : (k *ℤ size) <ℤ z.y1 = omega (arith, ints, clamps, rows) in
      let begin : q <ℤ (k +ℤ pos 1) = fewer q (k +ℤ pos 1) size some (omega (arith, ints, s.from, up)) in
      let end : k <ℤ (r +ℤ pos 1) = fewer k (r +ℤ pos 1) size some (omega (arith, ints, t.below, down)) in
      both_hold (begin_at size first z) (end_at size first z) place (omega (arith, ints, low, begin)) (omega (arith, ints, low, end))

  apart : (z : Trapezoid) → IsShot z → IsPlaced size first count z → meets size first place z ≡ false → pieces_of_shot size (first +ℤ pos place) z ≡ []
  apart z shot placed misses = no_pieces size (first +ℤ pos place) z (λ rows. not_both _ (rows_meet z shot placed rows) misses)

  pub same_pieces : (shots : List Trapezoid) → All IsShot shots → All (IsPlaced size first count) shots → pieces_of size (first +ℤ pos place)
      (filter (meets size first place) shots) ≡ pieces_of size (first +ℤ pos place) shots
  same_pieces [] legal placed = refl
  same_pieces (z ∷ shots) legal placed =
      by (meets size first place z) refl (same_pieces shots (All-tail IsShot z shots legal) (All-tail (IsPlaced size first count) z shots placed))
    where
      by : (b : Bool) → meets size first place z ≡ b → pieces_of size (first +ℤ pos place) (filter (meets size first place) shots) ≡ pieces_of size
          (first +ℤ pos place) shots
          → pieces_of size (first +ℤ pos place) (cond b (z ∷ filter (meets size first place) shots) (filter
          (meets size first place) shots)) ≡ pieces_of size (first +ℤ pos place) (z ∷ shots)
      by true e h = ap (λ l. pieces_of_shot size (first +ℤ pos place) z ++ l) h
      by false e h = h ∙ sym (ap (λ l. l ++ pieces_of size (first +ℤ pos place) shots) (apart z (All-head IsShot z shots legal) (All-head
          (IsPlaced size first count) z shots placed) e))
