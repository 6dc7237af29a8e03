-- The windings of the edges of the rings of a list.
use Rattle.std.proofs.Common.{◌≡◌, Bool, true, false, ℤ, pos, ◌+ℤ◌, ◌≤ℤ◌, arith, refl, ap, ◌∙◌, All, List, [], ◌∷◌, flat_map}
use Rattle.std.proofs.lemmas.Int.{ints}
use Rattle.std.proofs.lemmas.List.Elements.{All-head, All-tail}
use Rattle.half_grid.specs.Edges.{edges_winding}
use Rattle.half_grid.specs.Nearness.{IsGrown}
use Rattle.half_grid.specs.Trapezoids.{Trapezoid, IsInTrapezoid, IsLegal, trapezoid_has}
use Rattle.half_grid.specs.Winding.{count_one}
use Rattle.half_grid.specs.declared.border.Operand.TheVariants.{A, B}
use Rattle.half_grid.specs.declared.plane.Tile.{Tile}
use Rattle.half_grid.proofs.ForCallers.{windings_add, count_by-cons, has_in, in_has}
use Rattle.square_size.specs.EdgeLaws.{IsInSome}
use Rattle.square_size.specs.Edges.{edges_of_grown}
use Rattle.square_size.specs.Ranges.{IsRectangle}
use Rattle.square_size.specs.Rings.{grown_ring}
use Rattle.square_size.proofs.EdgeWindings.{edges_have_winding, no_edges, none_for_other}
use Rattle.square_size.proofs.RingLaw.{ring_inside, ring_outside, near_or_not}

module _ (dx dy : ℤ) (r : IsRectangle dx dy) where
  abbrev winds : List Trapezoid → Tile → ℤ
  winds traps t = edges_winding A (flat_map (edges_of_grown dx dy) traps) t

  abbrev Near : Trapezoid → Tile → Type 0
  Near z t = IsGrown dx dy (IsInTrapezoid z) t

  one_ring : (z : Trapezoid) (t : Tile) → IsLegal z → Near z t → edges_winding A (edges_of_grown dx dy z) t ≡ pos 1
  one_ring z t legal h = edges_have_winding A (grown_ring dx dy z) t ∙ ring_inside dx dy z r legal t h

  no_ring : (z : Trapezoid) (t : Tile) → IsLegal z → (Near z t → ⊥) → edges_winding A (edges_of_grown dx dy z) t ≡ pos 0
  no_ring z t legal h = edges_have_winding A (grown_ring dx dy z) t ∙ ring_outside dx dy z r legal t h

  one_more : (z : Trapezoid) (traps : List Trapezoid) (t : Tile) → winds (z ∷ traps) t ≡ edges_winding A (edges_of_grown dx dy z) t +ℤ winds traps t
  one_more z traps t = windings_add A (edges_of_grown dx dy z) (flat_map (edges_of_grown dx dy) traps) t

  not_negative : (traps : List Trapezoid) (t : Tile) → All IsLegal traps → pos 0 ≤ℤ winds traps t
  not_negative [] t legal = omega (arith, ints, no_edges A t)
  not_negative (z ∷ traps) t legal =
      let first = All-head IsLegal z traps legal in
      let later = not_negative traps t (All-tail IsLegal z traps legal) in
      let sum = one_more z traps t in
      near_or_not dx dy z r first t
      (λ close. (let one = one_ring z t first close in omega (arith, ints, one, later, sum)))
      (λ far. (let none = no_ring z t first far in omega (arith, ints, none, later, sum)))

  in_first : (z : Trapezoid) (traps : List Trapezoid) (u : Tile) → IsInTrapezoid z u → IsInSome (z ∷ traps) u
  in_first z traps u h =
      let here = ap count_one (in_has u z h) in
      omega (arith, count_by-cons (trapezoid_has u) z traps, here)

  in_later : (z : Trapezoid) (traps : List Trapezoid) (u : Tile) → IsInSome traps u → IsInSome (z ∷ traps) u
  in_later z traps u h = omega (arith, count_by-cons (trapezoid_has u) z traps, h)

  in_one : {P : Type 0} (z : Trapezoid) (traps : List Trapezoid) (u : Tile) (has : Bool) → trapezoid_has u z ≡ has
      → IsInSome (z ∷ traps) u → (IsInTrapezoid z u → P) → (IsInSome traps u → P) → P
  in_one {P} z traps u true e h here later = here (has_in u z e)
  in_one {P} z traps u false e h here later =
      let none = ap count_one e in
      later (omega (arith, count_by-cons (trapezoid_has u) z traps, none, h))

  pub grown_wind : (traps : List Trapezoid) (t : Tile) → All IsLegal traps → IsGrown dx dy (IsInSome traps) t → pos 1 ≤ℤ winds traps t
  grown_wind [] t legal h = absurd (omega (arith, h.1))
  grown_wind (z ∷ traps) t legal h =
      let first = All-head IsLegal z traps legal in
      let rest = All-tail IsLegal z traps legal in
      let sum = one_more z traps t in
      in_one z traps h.0 _ refl h.1
      (λ i. (let one = one_ring z t first (h.0, i, h.2) in let later = not_negative traps t rest in omega (arith, ints, one, later, sum)))
      (λ i. (let later = grown_wind traps t rest (h.0, i, h.2) in
      near_or_not dx dy z r first t
      (λ close. (let one = one_ring z t first close in omega (arith, ints, one, later, sum)))
      (λ far. (let none = no_ring z t first far in omega (arith, ints, none, later, sum)))))

  pub others_do_not_wind : (traps : List Trapezoid) (t : Tile) → All IsLegal traps → (IsGrown dx dy (IsInSome traps) t → ⊥) → winds traps t ≡ pos 0
  others_do_not_wind [] t legal out = no_edges A t
  others_do_not_wind (z ∷ traps) t legal out =
      let none = no_ring z t (All-head IsLegal z traps legal) (λ h. out (h.0, in_first z traps h.0 h.1, h.2)) in
      let later = others_do_not_wind traps t (All-tail IsLegal z traps legal) (λ h. out (h.0, in_later z traps h.0 h.1, h.2)) in
      omega (arith, ints, none, later, one_more z traps t)

-- they don't wind for operand B
pub grown_not_for_other : (dx dy : ℤ) (traps : List Trapezoid) (t : Tile) → edges_winding B (flat_map (edges_of_grown dx dy) traps) t ≡ pos 0
grown_not_for_other dx dy [] t = no_edges B t
grown_not_for_other dx dy (z ∷ traps) t =
    let first = none_for_other B A (grown_ring dx dy z) t refl in
    let later = grown_not_for_other dx dy traps t in
    windings_add B (edges_of_grown dx dy z) (flat_map (edges_of_grown dx dy) traps) t ∙ (rw (first, later) (omega (arith, ints)))
