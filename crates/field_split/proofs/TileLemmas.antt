-- In how many pieces of a stripe a tile is.
use Rattle.std.proofs.Common.{◌≡◌, Bool, true, false, ℤ, pos, ◌+ℤ◌, ◌*ℤ◌, ◌≤ℤ◌, ◌<ℤ◌, List, [], ◌∷◌, ◌++◌, arith, refl, ap, ◌∙◌, length}
use Rattle.std.proofs.lemmas.Int.{ints, by_lt_z}
use Rattle.std.proofs.lemmas.List.Elements.{All-head, All-tail}
use Rattle.std.specs.List.{All, AllZip}
use Rattle.half_grid.specs.Trapezoids.{Trapezoid, IsInTrapezoid, trapezoid_has, count_in}
use Rattle.half_grid.specs.declared.plane.Tile.{Tile}
use Rattle.half_grid.proofs.ForCallers.{has_in, in_has}
use Rattle.geo_stream.specs.Flattened.{end_to_end}
use Rattle.field_split.specs.Fields.{IsFieldSize, IsInStretch, IsInFieldPart, ArePartLists, AreShotPieces, IsStripeList, AreStripeLists}
use Rattle.field_split.specs.Looks.{IsWithinStripes}
use Rattle.field_split.proofs.Stacks.{counted_in, counted_out, count_in-append}
use Rattle.field_split.proofs.Numbers.{multiples}

none_of : (t : Tile) (z : Trapezoid) → trapezoid_has t z ≡ false → IsInTrapezoid z t → ⊥
none_of t z e h = let yes = in_has t z h in absurd cc

module _ (size k : ℤ) (sized : IsFieldSize size) (t : Tile) where
  some_size : pos 0 <ℤ size
  some_size = omega (arith, ints, sized.least)

  -- a tile in none of the fields is in no piece
  parts_none : (z : Trapezoid) (m : ℤ) (lists : List (List Trapezoid)) → ((i : ℤ) → m ≤ℤ i → IsInFieldPart size i k z t → ⊥)
      → ArePartLists size m k z lists → count_in (end_to_end lists) t ≡ 0
  parts_none z m [] none p = omega arith
  parts_none z m (x ∷ lists) none p =
      let first = p.0.covers.never t (none m (omega (arith, ints))) in
      let rest = parts_none z (m +ℤ pos 1) lists (λ i h. none i (omega (arith, ints, h))) p.1 in
      omega (arith, count_in-append x (end_to_end lists) t, first, rest)

  -- one in one of the fields is in one piece
  parts_one : (z : Trapezoid) (m : ℤ) (lists : List (List Trapezoid)) → IsInTrapezoid z t → IsInStretch size k t.j
      → (m *ℤ size) ≤ℤ t.i → t.i <ℤ ((m +ℤ pos (length lists)) *ℤ size)
      → ArePartLists size m k z lists → count_in (end_to_end lists) t ≡ 1
  parts_one z m [] h r low high p = let up = multiples (m +ℤ pos 0) m size some_size (omega (arith, ints)) in absurd (omega (arith, ints, low, high, up))
  parts_one z m (x ∷ lists) h r low high p =
      by_lt_z t.i ((m +ℤ pos 1) *ℤ size)
      (λ here. (let first = p.0.covers.once t (record { inside = h; field = record { column = record { from = low; below = here }; row = r } }) in
      let rest = parts_none z (m +ℤ pos 1) lists
      (λ i le inside. (let up = multiples (m +ℤ pos 1) i size some_size le in let from =
      inside.field.column.from in omega (arith, ints, up, from, here))) p.1 in
      omega (arith, count_in-append x (end_to_end lists) t, first, rest)))
      (λ further. (let first = p.0.covers.never t (λ inside. (let below = inside.field.column.below in omega (arith, ints, below, further))) in
      let up = multiples (m +ℤ pos (length (x ∷ lists))) ((m +ℤ pos 1) +ℤ pos (length lists)) size some_size (omega (arith, ints)) in
      let rest = parts_one z (m +ℤ pos 1) lists h r further (omega (arith, ints, high, up)) p.1 in
      omega (arith, count_in-append x (end_to_end lists) t, first, rest)))

  split_in : (z : Trapezoid) (pieces : List Trapezoid) → AreShotPieces size k z pieces → IsInStretch size k t.j → IsInTrapezoid z t → count_in pieces t ≡ 1
  split_in z pieces p r h = ap (λ (xs : List Trapezoid). count_in xs t) p.is ∙ parts_one z p.first p.lists h r (p.none_left t h r) (p.none_right t h r) p.parts

  split_out : (z : Trapezoid) (pieces : List Trapezoid) → AreShotPieces size k z pieces → ((i : ℤ) → IsInFieldPart size i k z t → ⊥) → count_in pieces t ≡ 0
  split_out z pieces p none = ap (λ (xs : List Trapezoid). count_in xs t) p.is ∙ parts_none z p.first p.lists (λ i le h. none i h) p.parts

  counted_more : (z : Trapezoid) (shots pieces rest : List Trapezoid) (b : Bool) → trapezoid_has t z ≡ b
      → IsInStretch size k t.j → AreShotPieces size k z pieces → count_in rest t ≡ count_in shots t
      → count_in (pieces ++ rest) t ≡ count_in (z ∷ shots) t
  counted_more z shots pieces rest true e r p h =
      let inside = has_in t z e in
      omega (arith, count_in-append pieces rest t, split_in z pieces p r inside, counted_in t z shots inside, h)
  counted_more z shots pieces rest false e r p h =
      let out = none_of t z e in
      omega (arith, count_in-append pieces rest t, split_out z pieces p (λ i inside. out inside.inside), counted_out t z shots out, h)

  lists_counted : (shots : List Trapezoid) (lists : List (List Trapezoid)) → IsInStretch size k t.j
      → AllZip (AreShotPieces size k) shots lists → count_in (end_to_end lists) t ≡ count_in shots t
  lists_counted [] [] r p = refl
  lists_counted [] (x ∷ lists) r p = absurd p
  lists_counted (z ∷ shots) [] r p = absurd p
  lists_counted (z ∷ shots) (x ∷ lists) r p = counted_more z shots x (end_to_end lists) _ refl r p.0 (lists_counted shots lists r p.1)

  pub stripe_counted : (shots pieces : List Trapezoid) → IsStripeList size k shots pieces → IsInStretch size k t.j → count_in pieces t ≡ count_in shots t
  stripe_counted shots pieces list r = ap (λ (xs : List Trapezoid). count_in xs t) list.is ∙ lists_counted shots list.lists r list.each

  lists_none : (shots : List Trapezoid) (lists : List (List Trapezoid)) → (IsInStretch size k t.j → ⊥)
      → AllZip (AreShotPieces size k) shots lists → count_in (end_to_end lists) t ≡ 0
  lists_none [] [] out p = omega arith
  lists_none [] (x ∷ lists) out p = absurd p
  lists_none (z ∷ shots) [] out p = absurd p
  lists_none (z ∷ shots) (x ∷ lists) out p =
      omega (arith, count_in-append x (end_to_end lists) t, split_out z x p.0 (λ i inside. out inside.field.row), lists_none shots lists out p.1)

  pub stripe_none : (shots pieces : List Trapezoid) → IsStripeList size k shots pieces → (IsInStretch size k t.j → ⊥) → count_in pieces t ≡ 0
  stripe_none shots pieces list out = ap (λ (xs : List Trapezoid). count_in xs t) list.is ∙ lists_none shots list.lists out list.each

-- ---- all stripes

module _ (size : ℤ) (sized : IsFieldSize size) (t : Tile) where
  size_some : pos 0 <ℤ size
  size_some = omega (arith, ints, sized.least)

  stripes_none : (shots : List Trapezoid) (k : ℤ) (lists : List (List Trapezoid))
      → ((i : ℤ) → k ≤ℤ i → IsInStretch size i t.j → ⊥) → AreStripeLists size k shots lists
      → count_in (end_to_end lists) t ≡ 0
  stripes_none shots k [] out p = omega arith
  stripes_none shots k (x ∷ lists) out p =
      omega (
        arith,
        count_in-append x (end_to_end lists) t,
        stripe_none size k sized t shots x p.0
            (out k (omega (arith, ints))),
        stripes_none shots (k +ℤ pos 1) lists
            (λ i h. out i (omega (arith, ints, h))) p.1,
      )

  stripes_one : (shots : List Trapezoid) (k : ℤ) (lists : List (List Trapezoid)) → (k *ℤ size) ≤ℤ t.j
      → t.j <ℤ ((k +ℤ pos (length lists)) *ℤ size) → AreStripeLists size k shots lists
      → count_in (end_to_end lists) t ≡ count_in shots t
  stripes_one shots k [] low high p = let up = multiples (k +ℤ pos 0) k size size_some (omega (arith, ints)) in absurd (omega (arith, ints, low, high, up))
  stripes_one shots k (x ∷ lists) low high p =
      by_lt_z t.j ((k +ℤ pos 1) *ℤ size)
      (λ here. (let first = stripe_counted size k sized t shots x p.0 (record { from = low; below = here }) in
      let rest = stripes_none shots (k +ℤ pos 1) lists
      (λ i le r. (let up = multiples (k +ℤ pos 1) i size size_some le in let from = r.from in omega
      (arith, ints, up, from, here))) p.1 in
      omega (arith, count_in-append x (end_to_end lists) t, first, rest)))
      (λ further. (let first = stripe_none size k sized t shots x p.0 (λ r. (let below = r.below in omega (arith, ints, below, further))) in
      let up = multiples (k +ℤ pos (length (x ∷ lists))) ((k +ℤ pos 1) +ℤ pos (length lists)) size size_some (omega (arith, ints)) in
      let rest = stripes_one shots (k +ℤ pos 1) lists further (omega (arith, ints, high, up)) p.1 in
      omega (arith, count_in-append x (end_to_end lists) t, first, rest)))

  -- a tile above all stripes is in no piece
  stripes_past : (shots : List Trapezoid) (k : ℤ) (lists : List (List Trapezoid))
      → ((k +ℤ pos (length lists)) *ℤ size) ≤ℤ t.j → AreStripeLists size k shots lists
      → count_in (end_to_end lists) t ≡ 0
  stripes_past shots k [] high p = omega arith
  stripes_past shots k (x ∷ lists) high p =
      let up = multiples (k +ℤ pos 1) (k +ℤ pos (length (x ∷ lists))) size size_some (omega (arith, ints)) in
      let next = multiples ((k +ℤ pos 1) +ℤ pos (length lists)) (k +ℤ pos (length (x ∷ lists))) size size_some (omega (arith, ints)) in
      let first = stripe_none size k sized t shots x p.0 (λ r. (let below = r.below in omega (arith, ints, below, high, up))) in
      omega (arith, count_in-append x (end_to_end lists) t, first, stripes_past shots (k +ℤ pos 1) lists (omega (arith, ints, high, next)) p.1)

  -- a tile outside of all stripes is in no shot
  none_outside : (first last : ℤ) (shots : List Trapezoid) → All (IsWithinStripes size first last) shots
      → (((first *ℤ size) ≤ℤ t.j) → (t.j <ℤ ((last +ℤ pos 1) *ℤ size)) → ⊥) → count_in shots t ≡ 0
  none_outside first last [] h out = omega arith
  none_outside first last (z ∷ shots) h out =
      let one = All-head (IsWithinStripes size first last) z shots h in
      counted_out t z shots (λ i. out (omega (arith, ints, i.above_bottom, one.low)) (omega (arith, ints, i.below_top, one.high)))
      ∙ none_outside first last shots (All-tail (IsWithinStripes size first last) z shots h) out

  pub all_counted : (first last : ℤ) (shots : List Trapezoid) (lists : List (List Trapezoid))
      → All (IsWithinStripes size first last) shots → AreStripeLists size first shots lists
      → (first +ℤ pos (length lists)) ≡ (last +ℤ pos 1) → count_in (end_to_end lists) t ≡ count_in shots t
  all_counted first last shots lists within p e =
      let top : ((first +ℤ pos (length lists)) *ℤ size) ≡ ((last +ℤ pos 1) *ℤ size) = ap (λ (m : ℤ). m *ℤ size) e in
      by_lt_z t.j (first *ℤ size)
      (λ below. (let none = none_outside first last shots within (λ a b. omega (arith, ints, a, below)) in
      let pieces = stripes_none shots first lists
      (λ i le r. (let up = multiples first i size size_some le in let from = r.from in omega
      (arith, ints, up, from, below))) p in
      omega (arith, none, pieces)))
      (λ from. by_lt_z t.j ((last +ℤ pos 1) *ℤ size)
      (λ below. stripes_one shots first lists from (omega (arith, ints, below, top)) p)
      (λ above. (let none = none_outside first last shots within (λ a b. omega (arith, ints, b, above)) in
      let pieces = stripes_past shots first lists (omega (arith, ints, above, top)) p in
      omega (arith, none, pieces))))
