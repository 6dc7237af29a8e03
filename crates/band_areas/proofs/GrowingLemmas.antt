-- Growing trapezoids, and the search for the one that goes on in a trapezoid above.
use Rattle.std.proofs.Common.{◌≡◌, ℕ, zero, suc, ◌+◌, ◌≤◌, ◌<◌, ℤ, pos, ◌-ℤ◌, ◌≤ℤ◌, ◌<ℤ◌, Bool, true, false, ◌||◌, List, [], ◌∷◌, ◌++◌}
use Rattle.std.proofs.Common.{All, map, take, drop, length, replicate, set, slice_index_or, int_lt, arith, refl, sym, ap, subst, ◌∙◌, inl, inr, ◌⊎◌}
use Rattle.std.proofs.lemmas.Int.{ints}
use Rattle.std.proofs.lemmas.List.Elements.{All-cons, All-nil, All-head, All-tail, All-weaker}
use Rattle.std.proofs.lemmas.List.{append-nil, get_or-take, get_or-drop, length-take, length-drop}
use Rattle.std.proofs.Math.ListN.{drop_of_length-le}
use Rattle.std.proofs.lemmas.List.Folds.{list_any-append}
use Rattle.std.specs.List.{list_any, AllWithin}
use Rattle.std.specs.List.Sorted.{IsPartitionedBy, IsPartitionPoint}
use Rattle.half_grid.specs.JoinedLists.{StandsBefore, StandInOrder}
use Rattle.half_grid.specs.Rows.{place}
use Rattle.half_grid.specs.Trapezoids.{Trapezoid, trapezoid, IsShot}
use Rattle.half_grid.specs.declared.plane.Line.{Line}
use Rattle.trap_join.proofs.ForCallers.{taller_shot}
use Rattle.deck_plan.specs.Stacks.{goes_on, bottom_with, lengthened, ended}
use Rattle.deck_plan.proofs.ForCallers.{goes_is}
use Rattle.band_areas.specs.Cuts.{top_place}
use Rattle.band_areas.specs.Growing.{IsRightAtTop, AreGrowing, TopsAscend, going_on}

-- ---- members by their numbers

right_at : (growing : List Trapezoid) → AreGrowing growing → (i j : ℕ) (d : Trapezoid) → i < j → j < length growing
    → IsRightAtTop (slice_index_or growing i d) (slice_index_or growing j d)
right_at [] g i j d less inside = absurd (omega (arith, inside))
right_at (z ∷ zs) g i zero d less inside = absurd (omega (arith, less))
right_at (z ∷ zs) g zero (suc j) d less inside = g.0 j d (omega (arith, inside))
right_at (z ∷ zs) g (suc i) (suc j) d less inside = right_at zs g.1 i j d (omega (arith, less)) (omega (arith, inside))

top_at : (traps : List Trapezoid) → TopsAscend traps → (i j : ℕ) (d : Trapezoid) → i < j → j < length traps
    → (slice_index_or traps i d).y1 ≤ℤ (slice_index_or traps j d).y1
top_at [] g i j d less inside = absurd (omega (arith, inside))
top_at (z ∷ zs) g i zero d less inside = absurd (omega (arith, less))
top_at (z ∷ zs) g zero (suc j) d less inside = g.0 j d (omega (arith, inside))
top_at (z ∷ zs) g (suc i) (suc j) d less inside = top_at zs g.1 i j d (omega (arith, less)) (omega (arith, inside))

-- the default doesn't matter where there is a member
pub same_default : (traps : List Trapezoid) (i : ℕ) (d e : Trapezoid) → i < length traps → slice_index_or traps i d ≡ slice_index_or traps i e
same_default [] i d e inside = absurd (omega (arith, inside))
same_default (z ∷ zs) zero d e inside = refl
same_default (z ∷ zs) (suc i) d e inside = same_default zs i d e (omega (arith, inside))

-- which of two numbers is less
either_way : (i j : ℕ) → (i < j) ⊎ (i ≡ j) ⊎ (j < i)
either_way zero zero = inr (inl refl)
either_way zero (suc j) = inl (omega arith)
either_way (suc i) zero = inr (inr (omega arith))
either_way (suc i) (suc j) = elim (either_way i j) [
  | inl less ↦ inl (omega (arith, less))
  | inr (inl same) ↦ inr (inl (ap suc same))
  | inr (inr more) ↦ inr (inr (omega (arith, more)))
]

pub lt_is : (x y : ℤ) → int_lt x y ≡ true → x <ℤ y
lt_is x y h = grind (arith, ints)

pub lt_not : (x y : ℤ) → int_lt x y ≡ false → y ≤ℤ x
lt_not x y h = grind (arith, ints)

lt_yes : (x y : ℤ) → x <ℤ y → int_lt x y ≡ true
lt_yes x y h = grind (arith, ints)

-- ---- the search

pub places_parted : (growing : List Trapezoid) (v : ℤ) → AreGrowing growing → IsPartitionedBy (λ z. int_lt (top_place z) v) growing
places_parted growing v g i j d le inside e = elim (either_way i j) [
  | inl less ↦ (let right = (right_at growing g i j d less inside).right in let low = lt_is _ v e in lt_yes _ v (omega (arith, ints, right, low)))
  | inr (inl same) ↦ subst (λ (n : ℕ). int_lt (top_place (slice_index_or growing n d)) v ≡ true) (sym same) e
  | inr (inr more) ↦ absurd (omega (arith, le, more))
]

pub tops_parted : (traps : List Trapezoid) (v : ℤ) → TopsAscend traps → IsPartitionedBy (λ z. int_lt z.y1 v) traps
tops_parted traps v g i j d le inside e = elim (either_way i j) [
  | inl less ↦ (let up = top_at traps g i j d less inside in let low = lt_is _ v e in lt_yes _ v (omega (arith, ints, up, low)))
  | inr (inl same) ↦ subst (λ (n : ℕ). int_lt (slice_index_or traps n d).y1 v ≡ true) (sym same) e
  | inr (inr more) ↦ absurd (omega (arith, le, more))
]

-- where the one stands that goes on: at the first place that isn't less
module _ (growing : List Trapezoid) (above : Trapezoid) (v : ℤ) (at : ℕ) (g : AreGrowing growing) (v_is : v ≡ place above.left (above.y0 -ℤ pos 1))
    (point : IsPartitionPoint (λ z. int_lt (top_place z) v ≡ true) (λ z. int_lt (top_place z) v ≡ false) growing at) where
  place_is : (z : Trapezoid) → goes_on z above ≡ true → top_place z ≡ v
  place_is z e =
      let h = goes_is z above e in
      ap (λ line. place line (z.y1 -ℤ pos 1)) h.left ∙ ap (λ y. place above.left (y -ℤ pos 1)) h.meet ∙ sym v_is

  elsewhere : (k : ℕ) (d : Trapezoid) → k < length growing → goes_on (slice_index_or growing k d) above ≡ true → k ≡ at
  elsewhere k d inside e = elim (either_way k at) [
    | inl less ↦ absurd
        (let low = lt_is _ v (point.0 k d (omega arith) less) in
        let same = place_is (slice_index_or growing k d) e in
        omega (arith, ints, low, same))
    | inr (inl same) ↦ same
    | inr (inr more) ↦ absurd
        (let right = (right_at growing g at k d more inside).right in
        let low = lt_not _ v (point.1 at d (omega arith) (omega (arith, more, inside))) in
        let same = place_is (slice_index_or growing k d) e in
        omega (arith, ints, right, low, same))
  ]

  none_by : (b : Bool) (k : ℕ) (d : Trapezoid) → k < length growing → goes_on (slice_index_or growing k d) above ≡ b
      → ((e : Trapezoid) → at < length growing → goes_on (slice_index_or growing at e) above ≡ false) → goes_on (slice_index_or growing k d) above ≡ false
  none_by false k d inside e not_here = e
  none_by true k d inside e not_here =
      let same = elsewhere k d inside e in
      subst (λ (n : ℕ). goes_on (slice_index_or growing n d) above ≡ false) (sym same) (not_here d (subst (λ (n : ℕ). n < length growing) same inside))

  pub none_goes : ((e : Trapezoid) → at < length growing → goes_on (slice_index_or growing at e) above ≡ false) → All (λ z. goes_on z above ≡ false) growing
  none_goes not_here k d inside = none_by _ k d inside refl not_here

-- where a trapezoid doesn't begin at their top, none goes on in it
other_row_by : (b : Bool) (z above : Trapezoid) (y : ℤ) → goes_on z above ≡ b → z.y1 ≡ y → (above.y0 ≡ y → ⊥) → goes_on z above ≡ false
other_row_by false z above y e top other = e
other_row_by true z above y e top other = absurd (other (sym (goes_is z above e).meet ∙ top))

pub other_row : (growing : List Trapezoid) (above : Trapezoid) (y : ℤ) → All (λ z. z.y1 ≡ y) growing → (above.y0 ≡ y → ⊥)
    → All (λ z. goes_on z above ≡ false) growing
other_row growing above y tops other = All-weaker (λ z. z.y1 ≡ y) (λ z. goes_on z above ≡ false) (λ z top. other_row_by _ z above y refl top other) growing tops

-- ---- what is lengthened

bottom_none : (growing : List Trapezoid) (above : Trapezoid) → All (λ z. goes_on z above ≡ false) growing → bottom_with growing above ≡ above.y0
bottom_none [] above none = refl
bottom_none (z ∷ zs) above none =
    let here = All-head (λ x. goes_on x above ≡ false) z zs none in
    rw here (bottom_none zs above (All-tail (λ x. goes_on x above ≡ false) z zs none))

pub lengthened_none : (growing : List Trapezoid) (above : Trapezoid) → All (λ z. goes_on z above ≡ false) growing → above ≡ lengthened growing above
lengthened_none growing above none = ap (λ (y : ℤ). let z : Trapezoid = record above { y0 = y } in z) (sym (bottom_none growing above none))

-- one that goes on in a shot makes a shot with it
pub both_shot : (z above : Trapezoid) → goes_on z above ≡ true → IsShot z → IsShot above → IsShot (trapezoid z.y0 above.y1 above.left above.right)
both_shot z above e s t =
    let h = goes_is z above e in
    let meet = subst (λ (y : ℤ). IsShot (trapezoid z.y0 y z.left z.right)) h.meet s in
    let left = subst (λ (l : Line). IsShot (trapezoid z.y0 above.y0 l z.right)) h.left meet in
    let both = subst (λ (r : Line). IsShot (trapezoid z.y0 above.y0 above.left r)) h.right left in
    taller_shot z.y0 above.y0 above.y1 above.left above.right both t

-- a growing one right of one that goes on doesn't, and the other way round
not_both : (z next above : Trapezoid) → IsRightAtTop z next → goes_on z above ≡ true → goes_on next above ≡ true → ⊥
not_both z next above right e f =
    let h = goes_is z above e in
    let k = goes_is next above f in
    let first : top_place z ≡ place above.left (z.y1 -ℤ pos 1) = ap (λ line. place line (z.y1 -ℤ pos 1)) h.left in
    let second : top_place next ≡ place above.left (z.y1 -ℤ pos 1) =
    ap (λ line. place line (next.y1 -ℤ pos 1)) k.left ∙ ap (λ y. place above.left (y -ℤ pos 1)) right.top in
    let less = right.right in
    omega (arith, ints, first, second, less)

not_first : (b : Bool) (z next above : Trapezoid) → goes_on z above ≡ b → IsRightAtTop z next → goes_on next above ≡ true → goes_on z above ≡ false
not_first false z next above e right f = e
not_first true z next above e right f = absurd (not_both z next above right e f)

not_later : (b : Bool) (z next above : Trapezoid) → goes_on next above ≡ b → IsRightAtTop z next → goes_on z above ≡ true → goes_on next above ≡ false
not_later false z next above e right f = e
not_later true z next above e right f = absurd (not_both z next above right f e)

pub bottom_at : (growing : List Trapezoid) (above : Trapezoid) (at : ℕ) (d : Trapezoid) → AreGrowing growing → at < length growing
    → goes_on (slice_index_or growing at d) above ≡ true → bottom_with growing above ≡ (slice_index_or growing at d).y0
bottom_at [] above at d g inside e = absurd (omega (arith, inside))
bottom_at (z ∷ zs) above zero d g inside e = rw e refl
bottom_at (z ∷ zs) above (suc at) d g inside e =
    let first = not_first _ z (slice_index_or zs at d) above refl (g.0 at d (omega (arith, inside))) e in
    rw first (bottom_at zs above at d g.1 (omega (arith, inside)) e)

-- ---- which of them go on

any_push : (z above : Trapezoid) (done : List Trapezoid) → list_any (goes_on z) (done ++ above ∷ []) ≡ (list_any (goes_on z) done || goes_on z above)
any_push z above done = list_any-append (goes_on z) done (above ∷ []) ∙ ap (λ b. list_any (goes_on z) done || b) (or_false (goes_on z above))
  where
    or_false : (b : Bool) → (b || false) ≡ b
    or_false true = refl
    or_false false = refl

or_same : (a : Bool) → (a || false) ≡ a
or_same true = refl
or_same false = refl

or_true : (a : Bool) → (a || true) ≡ true
or_true true = refl
or_true false = refl

pub going_nowhere : (growing : List Trapezoid) → replicate (length growing) false ≡ going_on growing []
going_nowhere [] = refl
going_nowhere (z ∷ zs) = ap (λ bs. false ∷ bs) (going_nowhere zs)

pub going_none : (growing : List Trapezoid) (above : Trapezoid) (done : List Trapezoid) → All (λ z. goes_on z above ≡ false) growing
    → going_on growing done ≡ going_on growing (done ++ above ∷ [])
going_none [] above done none = refl
going_none (z ∷ zs) above done none =
    let here = All-head (λ x. goes_on x above ≡ false) z zs none in
    let same : list_any (goes_on z) (done ++ above ∷ []) ≡ list_any (goes_on z) done =
    any_push z above done ∙ (rw here (or_same (list_any (goes_on z) done))) in
    ap (λ b. b ∷ going_on zs done) (sym same)
    ∙ ap (λ bs. list_any (goes_on z) (done ++ above ∷ []) ∷ bs) (going_none zs above done (All-tail (λ x. goes_on x above ≡ false) z zs none))

pub going_at : (growing : List Trapezoid) (above : Trapezoid) (done : List Trapezoid) (at : ℕ) (d : Trapezoid) → AreGrowing growing → at < length growing
    → goes_on (slice_index_or growing at d) above ≡ true → set (going_on growing done) at true ≡ going_on growing (done ++ above ∷ [])
going_at [] above done at d g inside e = absurd (omega (arith, inside))
going_at (z ∷ zs) above done zero d g inside e =
    let here : list_any (goes_on z) (done ++ above ∷ []) ≡ true = any_push z above done ∙ (rw e (or_true (list_any (goes_on z) done))) in
    let none : All (λ x. goes_on x above ≡ false) zs = All-weaker (IsRightAtTop z) (λ x. goes_on x above ≡ false)
    (λ x right. not_later _ z x above refl right e) zs g.0 in
    ap (λ b. b ∷ going_on zs done) (sym here) ∙ ap (λ bs. list_any (goes_on z) (done ++ above ∷ []) ∷ bs) (going_none zs above done none)
going_at (z ∷ zs) above done (suc at) d g inside e =
    let first = not_first _ z (slice_index_or zs at d) above refl (g.0 at d (omega (arith, inside))) e in
    let same : list_any (goes_on z) (done ++ above ∷ []) ≡ list_any (goes_on z) done =
    any_push z above done ∙ (rw first (or_same (list_any (goes_on z) done))) in
    ap (λ b. b ∷ set (going_on zs done) at true) (sym same)
    ∙ ap (λ bs. list_any (goes_on z) (done ++ above ∷ []) ∷ bs) (going_at zs above done at d g.1 (omega (arith, inside)) e)

-- those that aren't marked
abbrev pub left_out : List Bool → List Trapezoid → List Trapezoid
left_out marks [] = []
left_out [] (z ∷ zs) = []
left_out (true ∷ marks) (z ∷ zs) = left_out marks zs
left_out (false ∷ marks) (z ∷ zs) = z ∷ left_out marks zs

left_out_by : (b : Bool) (z : Trapezoid) (zs strip : List Trapezoid) → list_any (goes_on z) strip ≡ b
    → left_out (going_on zs strip) zs ≡ ended strip zs → left_out (b ∷ going_on zs strip) (z ∷ zs) ≡ ended strip (z ∷ zs)
left_out_by true z zs strip e later = rw e later
left_out_by false z zs strip e later = rw e (ap (λ l. z ∷ l) later)

pub left_out_none : (marks : List Bool) (growing : List Trapezoid) (n : ℕ) (list : List Trapezoid) → length growing ≤ n
    → list ++ left_out (drop n marks) (drop n growing) ≡ left_out marks growing → list ≡ left_out marks growing
left_out_none marks growing n list le e =
    sym (append-nil list) ∙ ap (λ (zs : List Trapezoid). list ++ left_out (drop n marks) zs) (sym (drop_of_length-le growing le)) ∙ e

pub left_out_ended : (growing strip : List Trapezoid) → left_out (going_on growing strip) growing ≡ ended strip growing
left_out_ended [] strip = refl
left_out_ended (z ∷ zs) strip = left_out_by (list_any (goes_on z) strip) z zs strip refl (left_out_ended zs strip)

-- ---- a list that is changed from its first on

abbrev pub changed_up_to : (Trapezoid → Trapezoid) → ℕ → List Trapezoid → List Trapezoid
changed_up_to f n [] = []
changed_up_to f zero (z ∷ zs) = z ∷ zs
changed_up_to f (suc n) (z ∷ zs) = f z ∷ changed_up_to f n zs

pub changed_none : (f : Trapezoid → Trapezoid) (zs : List Trapezoid) → changed_up_to f 0 zs ≡ zs
changed_none f [] = refl
changed_none f (z ∷ zs) = refl

pub changed_all : (f : Trapezoid → Trapezoid) (n : ℕ) (zs : List Trapezoid) → length zs ≤ n → changed_up_to f n zs ≡ map f zs
changed_all f n [] le = refl
changed_all f zero (z ∷ zs) le = absurd (omega (arith, le))
changed_all f (suc n) (z ∷ zs) le = ap (λ l. f z ∷ l) (changed_all f n zs (omega (arith, le)))

pub changed_at : (f : Trapezoid → Trapezoid) (n : ℕ) (zs : List Trapezoid) (d : Trapezoid)
    → slice_index_or (changed_up_to f n zs) n d ≡ slice_index_or zs n d
changed_at f n [] d = refl
changed_at f zero (z ∷ zs) d = refl
changed_at f (suc n) (z ∷ zs) d = changed_at f n zs d

pub changed_next : (f : Trapezoid → Trapezoid) (n : ℕ) (zs : List Trapezoid) (d : Trapezoid) → n < length zs
    → set (changed_up_to f n zs) n (f (slice_index_or zs n d)) ≡ changed_up_to f (suc n) zs
changed_next f n [] d inside = absurd (omega (arith, inside))
changed_next f zero (z ∷ zs) d inside = ap (λ l. f z ∷ l) (sym (changed_none f zs))
changed_next f (suc n) (z ∷ zs) d inside = ap (λ l. f z ∷ l) (changed_next f n zs d (omega (arith, inside)))

pub take_next : (n : ℕ) (zs : List Trapezoid) (d : Trapezoid) → n < length zs → take n zs ++ slice_index_or zs n d ∷ [] ≡ take (suc n) zs
take_next n [] d inside = absurd (omega (arith, inside))
take_next zero (z ∷ zs) d inside = refl
take_next (suc n) (z ∷ zs) d inside = ap (λ l. z ∷ l) (take_next n zs d (omega (arith, inside)))

-- ---- growing trapezoids of a joined list

same_top : (z next : Trapezoid) (y : ℤ) → z.y1 ≡ y → next.y1 ≡ y → StandsBefore z next → IsRightAtTop z next
same_top z next y a b (inl less) = absurd (omega (arith, ints, a, b, less))
same_top z next y a b (inr (same, left)) = record {
  top = b ∙ sym a;
  right = left;
}

pub order_growing : (growing : List Trapezoid) (y : ℤ) → All (λ z. z.y1 ≡ y) growing → StandInOrder growing → AreGrowing growing
order_growing [] y tops order = tt
order_growing (z ∷ zs) y tops order = (
  λ k d inside. same_top z (slice_index_or zs k d) y (All-head (λ x. x.y1 ≡ y) z zs tops)
      (All-tail (λ x. x.y1 ≡ y) z zs tops k d inside) (order.0 k d inside),
  order_growing zs y (All-tail (λ x. x.y1 ≡ y) z zs tops) order.1,
)

up_or_same : (z next : Trapezoid) → StandsBefore z next → z.y1 ≤ℤ next.y1
up_or_same z next (inl less) = omega (arith, ints, less)
up_or_same z next (inr (same, left)) = omega (arith, ints, same)

pub order_tops : (traps : List Trapezoid) → StandInOrder traps → TopsAscend traps
order_tops [] order = tt
order_tops (z ∷ zs) order = (All-weaker (StandsBefore z) (λ next. z.y1 ≤ℤ next.y1) (λ next h. up_or_same z next h) zs order.0, order_tops zs order.1)

-- lengthened trapezoids end where they did
pub tops_lengthened : (growing strip : List Trapezoid) → TopsAscend strip → TopsAscend (map (lengthened growing) strip)
tops_lengthened growing [] up = tt
tops_lengthened growing (z ∷ zs) up = (all_tops zs up.0, tops_lengthened growing zs up.1)
  where
    all_tops : (us : List Trapezoid) → All (λ next. z.y1 ≤ℤ next.y1) us → All (λ next. z.y1 ≤ℤ next.y1) (map (lengthened growing) us)
    all_tops [] all = All-nil (λ next. z.y1 ≤ℤ next.y1)
    all_tops (u ∷ us) all = All-cons (λ next. z.y1 ≤ℤ next.y1) (lengthened growing u) (map (lengthened growing) us)
        (All-head (λ next. z.y1 ≤ℤ next.y1) u us all) (all_tops us (All-tail (λ next. z.y1 ≤ℤ next.y1) u us all))

-- ---- parts of a list that a test parts

pub first_all : (P : Trapezoid → Type 0) (traps : List Trapezoid) (n : ℕ) → AllWithin P traps 0 n → All P (take n traps)
first_all P traps n h k d inside =
    let short = length-take n traps in
    subst P (sym (get_or-take n traps k d (omega (arith, inside, short)))) (h k d (omega arith) (omega (arith, inside, short)))

pub later_all : (P : Trapezoid → Type 0) (traps : List Trapezoid) (n : ℕ) → AllWithin P traps n (length traps) → All P (drop n traps)
later_all P traps n h k d inside =
    let rest = length-drop n traps in
    subst P (sym (get_or-drop n traps k d)) (h (n + k) d (omega arith) (omega (arith, inside, rest)))
