-- The pieces between both ways up along an outline.
use Rattle.std.proofs.Common.{◌≡◌, ◌⊎◌, inl, inr, ◌<◌, ◌≤◌, ◌+◌, ◌-◌, ℕ, zero, suc, length, ℤ, pos, ◌+ℤ◌, ◌-ℤ◌, ◌≤ℤ◌, ◌<ℤ◌, arith}
use Rattle.std.proofs.Common.{Bool, true, false, cond, ◌&&◌, int_le, int_lt, refl, ap, sym, ◌∙◌, subst, List, [], ◌∷◌, ◌++◌, drop, get_or}
use Rattle.std.specs.Int.{int_min}
use Rattle.std.proofs.lemmas.Int.{ints, clamps, by_lt_z}
use Rattle.std.proofs.lemmas.List.{get_or_append_left, length-append}
use Rattle.std.proofs.lemmas.List.Sums.{sum_by-append}
use Rattle.half_grid.specs.Outlines.{IsClosed, last_of}
use Rattle.half_grid.specs.Quads.{corners_of, ring_of}
use Rattle.half_grid.specs.Trapezoids.{Trapezoid, IsShot, CoversExactly, trapezoid, trapezoid_has, count_in}
use Rattle.half_grid.specs.Winding.{winding, count_one, IsInPolygon}
use Rattle.half_grid.specs.declared.plane.Point.{Point}
use Rattle.half_grid.specs.declared.plane.Tile.{Tile}
use Rattle.half_grid.proofs.ForCallers.{winding_from, winding_along, ring_inside, ring_outside, count_by-cons, has_in, in_has}
use Rattle.bool_ops.specs.Lone.{IsBetween}
use Rattle.bool_ops.specs.Monotone.{twice_round, point_of, winding_after, stretch, IsLevel, IsAscent, IsWayFrom}
use Rattle.bool_ops.specs.Monotone.{IsClimb, rest_of, top_of, IsNextClimb, slab_of}
use Rattle.bool_ops.specs.declared.climbs.Climb.{Climb}
use Rattle.bool_ops.proofs.LoneLemmas.{origin, IsUpTo, ring_between, slab_rows}
use Rattle.bool_ops.proofs.AscentLemmas.{no_stretch, stretch_over, stretches}

-- ---- twice round

from_append : (t : Tile) (a : Point) (xs ys : List Point) → winding_from t a (xs ++ ys) ≡ winding_from t a xs +ℤ winding_from t (last_of a xs) ys
from_append t a [] ys = omega (arith, ints)
from_append t a (b ∷ xs) ys = omega (arith, ints, from_append t b xs ys)

both_parts : (t : Tile) (a : Point) (xs ys : List Point) (k : ℕ) → k ≤ length xs
    → winding (drop k (a ∷ (xs ++ ys))) t ≡ winding (drop k (a ∷ xs)) t +ℤ winding_from t (last_of a xs) ys
both_parts t a xs ys zero h = omega (arith, ints, winding_along t a (xs ++ ys), winding_along t a xs, from_append t a xs ys)
both_parts t a [] ys (suc k) h = absurd (omega (arith, h))
both_parts t a (b ∷ xs) ys (suc k) h = both_parts t b xs ys k (omega (arith, h))

drop_first : (a : Point) (xs ys : List Point) (n : ℕ) → drop (n + length xs) (a ∷ (xs ++ ys)) ≡ drop n (last_of a xs ∷ ys)
drop_first a [] ys n = let e : n + 0 ≡ n = omega arith in ap (λ m. drop m (a ∷ ys)) e
drop_first a (b ∷ xs) ys n = let e : n + length (b ∷ xs) ≡ suc (n + length xs) = omega arith in rw e (drop_first b xs ys n)

get_first : (a d : Point) (xs ys : List Point) (n : ℕ) → get_or (a ∷ (xs ++ ys)) (n + length xs) d ≡ get_or (last_of a xs ∷ ys) n d
get_first a d [] ys n = let e : n + 0 ≡ n = omega arith in ap (λ m. get_or (a ∷ ys) m d) e
get_first a d (b ∷ xs) ys n = let e : n + length (b ∷ xs) ≡ suc (n + length xs) = omega arith in rw e (get_first b d xs ys n)

-- the edges from a point on once round wind as all do
pub once_round : (points : List Point) (low end : ℕ) (t : Tile) → IsClosed points → low < length points → end + 1 ≡ low + length points
    → winding_after (twice_round points) low t -ℤ winding_after (twice_round points) end t ≡ winding points t
once_round [] low end t closed h e = absurd closed
once_round (a ∷ points) low end t closed h e =
    let same : end ≡ low + length points = omega (arith, e) in
    let first = both_parts t a points points low (omega (arith, h)) in
    let second = ap (λ (ring : List Point). winding ring t) (drop_first a points points low) in
    let whole = winding_along t a points in
    rw (same, second, first, closed, whole) (omega (arith, ints))

-- it ends at that point
pub same_point : (points : List Point) (low end : ℕ) → IsClosed points → low < length points → end + 1 ≡ low + length points
    → point_of (twice_round points) end ≡ point_of (twice_round points) low
same_point [] low end closed h e = absurd closed
same_point (a ∷ points) low end closed h e =
    let same : end ≡ low + length points = omega (arith, e) in
    rw same
    (get_first a origin points points low ∙ ap (λ (b : Point). get_or (b ∷ points) low origin) closed
    ∙ sym (get_or_append_left (a ∷ points) points origin low h))

-- ---- the first ways up

sum_first : (p q r s wa wb ws wt wl we w : ℤ) → p ≡ r → q ≡ s → wa ≡ ws -ℤ r → wb ≡ wt -ℤ s → ws ≡ wl → wt ≡ we → wl -ℤ we ≡ w
    → (p -ℤ q) +ℤ (wa -ℤ wb) ≡ w
sum_first p q r s wa wb ws wt wl we w e0 e1 e2 e3 e4 e5 e6 = omega (arith, ints, e0, e1, e2, e3, e4, e5, e6)

module _ (points : List Point) (low end start stop : ℕ) (closed : IsClosed points) (h : low < length points) (e : end + 1 ≡ low + length points)
    (first : IsLevel (twice_round points) low start) (last : IsLevel (twice_round points) end stop) (c : Climb)
    (from : c.from ≡ (point_of (twice_round points) low).y)
    (ahead : IsAscent (twice_round points) start c.ahead) (back : IsAscent (twice_round points) stop c.back) where
  start_y : c.from ≡ (point_of (twice_round points) start).y
  start_y = from ∙ sym first.row

  stop_y : c.from ≡ (point_of (twice_round points) stop).y
  stop_y = from ∙ sym (last.row ∙ ap (λ (p : Point). p.y) (same_point points low end closed h e))

  pub first_is : c.ahead.at ≤ c.back.at → c.back.at < length (twice_round points) → IsClimb (twice_round points) c
  first_is order within = record {
    order = order;
    within = within;
    ahead_top = ahead.top;
    back_top = back.top;
    ahead_rows = rw start_y ahead.rows;
    back_rows = rw stop_y back.rows;
  }

  pub first_rest : (t : Tile) → rest_of (twice_round points) c c.from t ≡ winding points t
  first_rest t =
      sum_first _ _ _ _ _ _ _ _ _ _ _ (ap (λ y. stretch t c.ahead.line y c.ahead.top) start_y) (ap (λ y. stretch t c.back.line y c.back.top) stop_y)
      (ahead.winds t) (back.winds t) (first.winds t) (last.winds t) (once_round points low end t closed h e)

-- ---- the ways from the next Y on

sum_next : (p q r s wa wb va vb : ℤ) → p +ℤ wa ≡ r +ℤ va → q +ℤ wb ≡ s +ℤ vb → (p -ℤ q) +ℤ (wa -ℤ wb) ≡ (r -ℤ s) +ℤ (va -ℤ vb)
sum_next p q r s wa wb va vb e f = omega (arith, ints, e, f)

-- one of both ways is another, so fewer edges are between them
pub fewer_between : (a b c d : ℕ) (from first second : ℤ) → from ≡ int_min first second → (from ≡ first → a < c) → (from ≡ second → d < b)
    → a ≤ c → d ≤ b → c ≤ d → d - c < b - a
fewer_between a b c d from first second e new_first new_second after before order =
    by_lt_z first second
    (λ lt. (let new = new_first (omega (arith, ints, clamps, e, lt)) in omega (arith, new, after, before, order)))
    (λ ge. (let new = new_second (omega (arith, ints, clamps, e, ge)) in omega (arith, new, after, before, order)))

pub next_is : (ring : List Point) (c d : Climb) → IsClimb ring c → d.from ≡ top_of c → d.ahead.at ≤ d.back.at → d.back.at < length ring
    → d.back.at - d.ahead.at < c.back.at - c.ahead.at
    → IsWayFrom ring d.from c.ahead d.ahead → IsWayFrom ring d.from c.back d.back → IsNextClimb ring c d
next_is ring c d climb from order within fewer ahead back = record {
  climb = record { order = order; within = within; ahead_top = ahead.top; back_top = back.top; ahead_rows = ahead.rows; back_rows = back.rows };
  from = from;
  fewer = fewer;
  rest = λ t. sum_next (stretch t d.ahead.line d.from d.ahead.top) (stretch t d.back.line d.from d.back.top)
      (stretch t c.ahead.line d.from c.ahead.top) (stretch t c.back.line d.from c.back.top) (winding_after ring d.ahead.at t)
      (winding_after ring d.back.at t) (winding_after ring c.ahead.at t) (winding_after ring c.back.at t) (ahead.winds t) (back.winds t);
}

-- ---- the trapezoids

-- what the trapezoids have up to this Y the outline winds round once
pub record IsDone (points : List Point) (c : Climb) (y : ℤ) (traps : List Trapezoid) : Type 0 where
  pub once : (t : Tile) → count_in traps t ≤ 1
  pub above : (t : Tile) → y ≤ℤ t.j → count_in traps t ≡ 0
  pub winds : (t : Tile) → IsUpTo (winding points t -ℤ rest_of (twice_round points) c y t) (pos (count_in traps t))

pub none_done : (points : List Point) (c : Climb) (y : ℤ) → ((t : Tile) → rest_of (twice_round points) c y t ≡ winding points t) → IsDone points c y []
none_done points c y rest = record {
  once = λ t. omega arith;
  above = λ t h. refl;
  winds = λ t. inl (omega (arith, ints, rest t));
}

one_more : (traps : List Trapezoid) (z : Trapezoid) (t : Tile) → count_in (traps ++ z ∷ []) t ≡ count_in traps t + count_one (trapezoid_has t z)
one_more traps z t = let last = count_by-cons (trapezoid_has t) z [] in omega (arith, sum_by-append (λ y. cond (trapezoid_has t y) 1 0) traps (z ∷ []), last)

-- a trapezoid has no tile in other rows
none_under : (z : Trapezoid) (t : Tile) → t.j <ℤ z.y0 → trapezoid_has t z ≡ false
none_under z t h = let e : int_le z.y0 t.j ≡ false = grind (arith, ints) in rw e refl

none_over : (z : Trapezoid) (t : Tile) → z.y1 ≤ℤ t.j → trapezoid_has t z ≡ false
none_over z t h = let e : (int_le z.y0 t.j && int_lt t.j z.y1) ≡ false = grind (arith, ints) in rw e refl

one_small : (b : Bool) → count_one b ≤ 1
one_small true = omega arith
one_small false = omega arith

-- what the corners of a shot wind
ring_by : (z : Trapezoid) (t : Tile) (has : Bool) → trapezoid_has t z ≡ has → IsShot z → winding (ring_of (corners_of z)) t ≡ pos (count_one has)
ring_by z t true e shot = ring_inside z t shot.legal (has_in t z e)
ring_by z t false e shot = ring_outside z t shot.legal (λ inside. (let clash : true ≡ false = sym (in_has t z inside) ∙ e in cc))

-- what both lines wind in the rows up to where the first way ends
abbrev pub between_of : Climb → Tile → ℤ
between_of c t = stretch t c.ahead.line c.from (top_of c) -ℤ stretch t c.back.line c.from (top_of c)

sum_split : (a b c d e f w v : ℤ) → a ≡ c +ℤ d → b ≡ e +ℤ f → (a -ℤ b) +ℤ (w -ℤ v) ≡ (c -ℤ e) +ℤ ((d -ℤ f) +ℤ (w -ℤ v))
sum_split a b c d e f w v g h = omega (arith, ints, g, h)

rest_split : (ring : List Point) (c : Climb) (t : Tile) → IsClimb ring c → rest_of ring c c.from t ≡ between_of c t +ℤ rest_of ring c (top_of c) t
rest_split ring c t climb =
    let low : c.from ≤ℤ top_of c = omega (arith, ints, clamps, climb.ahead_rows, climb.back_rows) in
    let first = stretches t c.ahead.line c.from (top_of c) c.ahead.top low (omega (arith, ints, clamps)) in
    let second = stretches t c.back.line c.from (top_of c) c.back.top low (omega (arith, ints, clamps)) in
    sum_split (stretch t c.ahead.line c.from c.ahead.top) (stretch t c.back.line c.from c.back.top)
    (stretch t c.ahead.line c.from (top_of c)) (stretch t c.ahead.line (top_of c) c.ahead.top)
    (stretch t c.back.line c.from (top_of c)) (stretch t c.back.line (top_of c) c.back.top)
    (winding_after ring c.ahead.at t) (winding_after ring c.back.at t) first second

up_to_none : (w : ℤ) → IsUpTo w (pos 0) → w ≡ pos 0
up_to_none w (inl e) = e
up_to_none w (inr e) = e

low_of : (c : Climb) (z : Trapezoid)
    → (z ≡ trapezoid c.from (top_of c) c.ahead.line c.back.line) ⊎ (z ≡ trapezoid c.from (top_of c) c.back.line c.ahead.line) → z.y0 ≡ c.from
low_of c z (inl e) = ap (λ (y : Trapezoid). y.y0) e
low_of c z (inr e) = ap (λ (y : Trapezoid). y.y0) e

high_of : (c : Climb) (z : Trapezoid)
    → (z ≡ trapezoid c.from (top_of c) c.ahead.line c.back.line) ⊎ (z ≡ trapezoid c.from (top_of c) c.back.line c.ahead.line) → z.y1 ≡ top_of c
high_of c z (inl e) = ap (λ (y : Trapezoid). y.y1) e
high_of c z (inr e) = ap (λ (y : Trapezoid). y.y1) e

turned : (w n : ℤ) → IsUpTo w n → IsUpTo n w
turned w n (inl e) = inl (sym e)
turned w n (inr e) = inr (omega (arith, ints, e))

same_up_to : (w v : ℤ) (n m : ℕ) → w ≡ v → n ≡ m → IsUpTo w (pos n) → IsUpTo v (pos m)
same_up_to w v n m e f h = subst (λ x. IsUpTo x (pos m)) e (subst (λ k. IsUpTo w (pos k)) f h)

module _ (points : List Point) (c : Climb) (traps : List Trapezoid) (z : Trapezoid) (climb : IsClimb (twice_round points) c)
    (done : IsDone points c c.from traps) (it : IsBetween (slab_of c) z) where
  rows : c.from <ℤ top_of c
  rows = slab_rows (slab_of c) z it.shot it.is

  lines_up_to : (t : Tile) → IsUpTo (between_of c t) (pos (count_one (trapezoid_has t z)))
  lines_up_to t =
      subst (λ w. IsUpTo (between_of c t) w) (ring_by z t (trapezoid_has t z) refl it.shot)
      (turned (winding (ring_of (corners_of z)) t) (between_of c t) (ring_between (slab_of c) z t rows it.is))

  -- a tile under these rows
  under : (t : Tile) → t.j <ℤ c.from
      → IsUpTo (winding points t -ℤ rest_of (twice_round points) c (top_of c) t) (pos (count_in (traps ++ z ∷ []) t))
  under t h =
      let none : trapezoid_has t z ≡ false = none_under z t (rw (low_of c z it.is) h) in
      let first = stretch_over t c.ahead.line c.from (top_of c) h in
      let second = stretch_over t c.back.line c.from (top_of c) h in
      let split = rest_split (twice_round points) c t climb in
      let count : count_in traps t ≡ count_in (traps ++ z ∷ []) t = omega (arith, one_more traps z t, ap count_one none) in
      same_up_to (winding points t -ℤ rest_of (twice_round points) c c.from t) (winding points t -ℤ rest_of (twice_round points) c (top_of c) t)
      (count_in traps t) (count_in (traps ++ z ∷ []) t) (omega (arith, ints, split, first, second)) count (done.winds t)

  -- one in these rows or above
  over : (t : Tile) → c.from ≤ℤ t.j
      → IsUpTo (winding points t -ℤ rest_of (twice_round points) c (top_of c) t) (pos (count_in (traps ++ z ∷ []) t))
  over t h =
      let none = done.above t h in
      let before = up_to_none (winding points t -ℤ rest_of (twice_round points) c c.from t)
      (subst (λ n. IsUpTo (winding points t -ℤ rest_of (twice_round points) c c.from t) (pos n)) none (done.winds t)) in
      let split = rest_split (twice_round points) c t climb in
      let count : count_one (trapezoid_has t z) ≡ count_in (traps ++ z ∷ []) t = omega (arith, one_more traps z t, none) in
      same_up_to (between_of c t) (winding points t -ℤ rest_of (twice_round points) c (top_of c) t)
      (count_one (trapezoid_has t z)) (count_in (traps ++ z ∷ []) t) (omega (arith, ints, split, before)) count (lines_up_to t)

  above_all : (t : Tile) → top_of c ≤ℤ t.j → count_in (traps ++ z ∷ []) t ≡ 0
  above_all t h =
      let none : trapezoid_has t z ≡ false = none_over z t (rw (high_of c z it.is) h) in
      let before = done.above t (omega (arith, ints, rows, h)) in
      omega (arith, one_more traps z t, before, ap count_one none)

  once_all : (t : Tile) → count_in (traps ++ z ∷ []) t ≤ 1
  once_all t =
      by_lt_z t.j c.from
      (λ lt. (let none : trapezoid_has t z ≡ false = none_under z t (rw (low_of c z it.is) lt) in
      omega (arith, one_more traps z t, done.once t, ap count_one none)))
      (λ ge. omega (arith, one_more traps z t, done.above t ge, one_small (trapezoid_has t z)))

  pub more_done : IsDone points c (top_of c) (traps ++ z ∷ [])
  more_done = record { once = once_all; above = above_all; winds = λ t. by_lt_z t.j c.from (under t) (over t) }

pub next_done : (points : List Point) (c d : Climb) (traps : List Trapezoid) → IsDone points c (top_of c) traps → IsNextClimb (twice_round points) c d
    → IsDone points d d.from traps
next_done points c d traps done next = record {
  once = done.once;
  above = λ t h. done.above t (rw (← next.from) h);
  winds = λ t. subst (λ r. IsUpTo (winding points t -ℤ r) (pos (count_in traps t)))
      (ap (λ y. rest_of (twice_round points) c y t) (sym next.from) ∙ sym (next.rest t)) (done.winds t);
}

-- ---- the outline

covered : (w : ℤ) (n : ℕ) → IsUpTo w (pos n) → n ≤ 1 → (w ≡ pos 0 → ⊥) → n ≡ 1
covered w zero h few apart = absurd (apart (up_to_none w h))
covered w (suc n) h few apart = omega (arith, few)

uncovered : (w : ℤ) (n : ℕ) → IsUpTo w (pos n) → ((w ≡ pos 0 → ⊥) → ⊥) → n ≡ 0
uncovered w zero h never = refl
uncovered w (suc n) (inl e) never = absurd (never (λ none. omega (arith, ints, e, none)))
uncovered w (suc n) (inr e) never = absurd (never (λ none. omega (arith, ints, e, none)))

sum_none : (p q w v : ℤ) → p ≡ pos 0 → q ≡ pos 0 → w ≡ v → (p -ℤ q) +ℤ (w -ℤ v) ≡ pos 0
sum_none p q w v e f g = omega (arith, ints, e, f, g)

nothing_left : (ring : List Point) (c : Climb) (t : Tile) → IsClimb ring c → c.back.at ≤ c.ahead.at → rest_of ring c (top_of c) t ≡ pos 0
nothing_left ring c t climb met =
    let same : c.ahead.at ≡ c.back.at = omega (arith, climb.order, met) in
    let tops : c.ahead.top ≡ c.back.top = climb.ahead_top ∙ ap (λ k. (point_of ring k).y) same ∙ sym climb.back_top in
    let first : top_of c ≡ c.ahead.top = omega (arith, ints, clamps, tops) in
    let second : top_of c ≡ c.back.top = omega (arith, ints, clamps, tops) in
    sum_none _ _ _ _
    (ap (λ y. stretch t c.ahead.line (top_of c) y) (sym first) ∙ no_stretch t c.ahead.line (top_of c))
    (ap (λ y. stretch t c.back.line (top_of c) y) (sym second) ∙ no_stretch t c.back.line (top_of c))
    (ap (λ k. winding_after ring k t) same)

pub all_done : (points : List Point) (c : Climb) (traps : List Trapezoid) → IsClimb (twice_round points) c → c.back.at ≤ c.ahead.at
    → IsDone points c (top_of c) traps → CoversExactly traps (IsInPolygon points)
all_done points c traps climb met done =
    let winds : (t : Tile) → IsUpTo (winding points t) (pos (count_in traps t)) = λ t.
    subst (λ w. IsUpTo w (pos (count_in traps t)))
    (let none = nothing_left (twice_round points) c t climb met in omega (arith, ints, none)) (done.winds t) in
    record {
      once = λ t h. covered (winding points t) (count_in traps t) (winds t) (done.once t) h;
      never = λ t h. uncovered (winding points t) (count_in traps t) (winds t) h;
    }

-- ---- as the code has it

pub ring_length : (points : List Point) → 0 < length points → length (twice_round points) + 1 ≡ length points + length points
ring_length [] h = absurd (omega (arith, h))
ring_length (a ∷ points) h = omega (arith, length-append points points)
