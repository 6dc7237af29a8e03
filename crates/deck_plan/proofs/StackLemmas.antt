-- Two joined lists, of rows and of the rows upon them, make the joined list of all the rows. The trapezoids of a joined
-- list that reach its top come last.
use Rattle.std.proofs.Common.{◌≡◌, ℕ, zero, suc, ◌+◌, ◌≤◌, ℤ, pos, ◌-ℤ◌, ◌≤ℤ◌, ◌<ℤ◌, Bool, true, false, ◌&&◌, cond}
use Rattle.std.proofs.Common.{arith, refl, sym, ap, subst, ◌∙◌, List, [], ◌∷◌, ◌++◌, map, filter}
use Rattle.std.proofs.lemmas.Int.{ints, clamps, by_lt_z}
use Rattle.std.proofs.lemmas.List.Elements.{All-append, All-cons, All-contains, All-filter, All-nil, All-weaker}
use Rattle.std.proofs.lemmas.List.Elements.{Contains-append_cases, Contains-append_left, Contains-append_right}
use Rattle.std.proofs.lemmas.List.Folds.{Any-from_list_any, list_any-from_Any}
use Rattle.std.specs.Int.{int_min}
use Rattle.std.specs.List.{All, Contains, list_any}
use Rattle.std.specs.Ordering.{int_eq}
use mathlib.Core.Logic.{◌⊎◌, inl, inr}
use Rattle.half_grid.specs.JoinedLists.{IsInWindow, IsJoined, StandsBefore, StandInOrder}
use Rattle.half_grid.specs.Lines.{IsRightOf, IsLeftOf}
use Rattle.half_grid.specs.Rows.{place, number_in_row}
use Rattle.half_grid.specs.Trapezoids.{Trapezoid, trapezoid, IsInTrapezoid, IsShot, CoversExactly, count_in, trapezoid_has}
use Rattle.half_grid.specs.Windows.{RowRange, row_range}
use Rattle.half_grid.specs.declared.plane.Line.{Line}
use Rattle.half_grid.specs.declared.plane.Tile.{Tile}
use Rattle.half_grid.proofs.ForCallers.{has_in, in_has, int_eq_true, int_eq_same, same_trapezoid, tile_with, tile_with_number}
use Rattle.scan_line.specs.declared.runs.Run.{Run}
use Rattle.trap_join.specs.Maximal.{IsRunAt, IsMaximal}
use Rattle.trap_join.specs.declared.front.Growing.{Growing}
use Rattle.trap_join.proofs.ForCallers.{Found, all_members, among_rest, any_by, found, inside_at, is_first, mapped, none_counted, origin, passed, passing}
use Rattle.trap_join.proofs.ForCallers.{goes_on_by, goes_on_left, goes_on_right, run_in, run_left, run_right, same_rows, some_member, taller_shot}
use Rattle.trap_join.proofs.ForCallers.{maximal_cover, maximal_joined, member_maximal, order_append, order_first, order_second}
use Rattle.deck_plan.specs.Stacks.{goes_on, bottom_with, lengthened, ends_below, ended, IsJoinedUpTo}

-- ---- tests and counts

both : (p q : Bool) → p && q ≡ true → (p ≡ true) × (q ≡ true)
both true q h = (refl, h)
both false q h = absurd (let clash : ⊥ = cc in clash)

clash : {P : Type 0} (p : Bool) → p ≡ true → p ≡ false → P
clash p h k = absurd (let both_ways : ⊥ = cc in both_ways)

some_or_none : (n : ℕ) → (1 ≤ n) ⊎ (1 ≤ n → ⊥)
some_or_none zero = inr (λ h. omega (arith, h))
some_or_none (suc n) = inl (omega arith)

not_some : (n : ℕ) → (1 ≤ n → ⊥) → n ≡ 0
not_some zero out = refl
not_some (suc n) out = absurd (out (omega arith))

-- ---- the tiles of a joined list, and its runs

-- some trapezoid of the list has the tile
abbrev Has : List Trapezoid → Tile → Type 0
Has traps t = 1 ≤ count_in traps t

module _ (window : RowRange) (traps : List Trapezoid) (joined : IsJoined window traps) where
  covers_own : CoversExactly traps (Has traps)
  covers_own = record {
    once = λ t some. (let most = joined.apart t in omega (arith, some, most));
    never = λ t none. not_some (count_in traps t) none;
  }

  one_maximal : (z : Trapezoid) → Contains traps z → IsMaximal (Has traps) window z
  one_maximal z h = member_maximal (Has traps) window traps (λ t. some_or_none (count_in traps t)) covers_own joined z h

  -- a member with the run's lines that has its row
  record Holds (l r : Line) (j : ℤ) : Type 0 where
    w : Trapezoid
    member : Contains traps w
    left : w.left ≡ l
    right : w.right ≡ r
    from : w.y0 ≤ℤ j
    to : j <ℤ w.y1

  holder : (l r : Line) (j : ℤ) → IsRunAt (Has traps) l r j → Holds l r j
  holder l r j run =
      let n = place l j in
      let t = tile_with n j in
      let e = tile_with_number n j in
      let f = found t traps (inside_at l r j n run (omega (arith, ints)) run.has_tile) in
      let i = has_in t f.0 f.2 in
      let from : n ≤ℤ number_in_row t = rw e (omega (arith, ints)) in
      let to : number_in_row t <ℤ place r j = rw e run.has_tile in
      record {
        w = f.0;
        member = f.1;
        left = run_left (Has traps) window f.0 l r t (one_maximal f.0 f.1) i run from to;
        right = run_right (Has traps) window f.0 l r t (one_maximal f.0 f.1) i run from to;
        from = i.above_bottom;
        to = i.below_top;
      }

moved_run : (area : Tile → Type 0) (l r k s : Line) (j : ℤ) → l ≡ k → r ≡ s → IsRunAt area l r j → IsRunAt area k s j
moved_run area l r k s j left right run =
    subst (λ (x : Line). IsRunAt area k x j) right (subst (λ (x : Line). IsRunAt area x r j) left run)

-- a joined list is joined in a window with more rows below
wider : (a c y : ℤ) (traps : List Trapezoid) → c ≤ℤ a → IsJoined (row_range a y) traps → IsJoined (row_range c y) traps
wider a c y traps le joined = record {
  legal = joined.legal;
  in_window = All-weaker (IsInWindow (row_range a y)) (IsInWindow (row_range c y))
      (λ z w. record { low = (let low = w.low in omega (arith, ints, le, low)); high = w.high }) traps joined.in_window;
  apart = joined.apart;
  ends_free = joined.ends_free;
  not_stacked = joined.not_stacked;
  in_order = joined.in_order;
}

-- ---- what goes on in what

abbrev as_growing : Trapezoid → Growing
as_growing z = record { y0 = z.y0; left = z.left; right = z.right }

abbrev as_run : Trapezoid → Run
as_run z = record { left = z.left; right = z.right; a = pos 0; b = pos 0 }

pub record GoesOn (z above : Trapezoid) : Type 0 where
  pub meet : z.y1 ≡ above.y0
  pub left : z.left ≡ above.left
  pub right : z.right ≡ above.right

pub goes_is : (z above : Trapezoid) → goes_on z above ≡ true → GoesOn z above
goes_is z above h =
    let p = both (int_eq z.y1 above.y0) _ h in
    record {
      meet = int_eq_true z.y1 above.y0 p.0;
      left = goes_on_left (as_growing z) (as_run above) p.1;
      right = goes_on_right (as_growing z) (as_run above) p.1;
    }

pub goes_by : (z above : Trapezoid) → GoesOn z above → goes_on z above ≡ true
goes_by z above g = rw (int_eq_same z.y1 above.y0 g.meet) (goes_on_by (as_growing z) (as_run above) g.left g.right)

-- one that goes on in the trapezoid
record Former (growing : List Trapezoid) (above : Trapezoid) : Type 0 where
  z : Trapezoid
  member : Contains growing z
  goes : goes_on z above ≡ true
  bottom : bottom_with growing above ≡ z.y0

-- none goes on in it
record IsNew (growing : List Trapezoid) (above : Trapezoid) : Type 0 where
  none : All (λ z. goes_on z above ≡ false) growing
  bottom : bottom_with growing above ≡ above.y0

later_former : (z : Trapezoid) (growing : List Trapezoid) (above : Trapezoid) → goes_on z above ≡ false
    → Former growing above ⊎ IsNew growing above → Former (z ∷ growing) above ⊎ IsNew (z ∷ growing) above
later_former z growing above e (inl f) = inl (record { z = f.z; member = among_rest z f.z growing f.member; goes = f.goes; bottom = rw e f.bottom })
later_former z growing above e (inr n) = inr
    (record { none = All-cons (λ (x : Trapezoid). goes_on x above ≡ false) z growing e n.none; bottom = rw e n.bottom })

former_by : (p : Bool) (z : Trapezoid) (growing : List Trapezoid) (above : Trapezoid) → goes_on z above ≡ p
    → Former growing above ⊎ IsNew growing above → Former (z ∷ growing) above ⊎ IsNew (z ∷ growing) above
former_by true z growing above e later = inl (record { z = z; member = is_first z growing; goes = e; bottom = rw e refl })
former_by false z growing above e later = later_former z growing above e later

former : (growing : List Trapezoid) (above : Trapezoid) → Former growing above ⊎ IsNew growing above
former [] above = inr (record { none = All-nil (λ (z : Trapezoid). goes_on z above ≡ false); bottom = refl })
former (z ∷ growing) above = former_by (goes_on z above) z growing above refl (former growing above)

-- ---- the order

kept_order : (p : Bool) (z : Trapezoid) (kept : List Trapezoid) → All (StandsBefore z) kept → StandInOrder kept → StandInOrder (cond p (z ∷ kept) kept)
kept_order true z kept before order = (before, order)
kept_order false z kept before order = order

order_filter : (p : Trapezoid → Bool) (traps : List Trapezoid) → StandInOrder traps → StandInOrder (filter p traps)
order_filter p [] order = tt
order_filter p (z ∷ traps) order = kept_order (p z) z (filter p traps) (All-filter p (StandsBefore z) traps order.0) (order_filter p traps order.1)

-- a longer trapezoid has the same place among others
order_lengthened : (growing strip : List Trapezoid) → StandInOrder strip → StandInOrder (map (lengthened growing) strip)
order_lengthened growing [] order = tt
order_lengthened growing (u ∷ strip) order = (
  all_members (StandsBefore (lengthened growing u)) (map (lengthened growing) strip)
      (λ v h. (let o = origin (lengthened growing) v strip h in
      subst (StandsBefore (lengthened growing u)) o.2 (All-contains (StandsBefore u) strip o.0 order.0 o.1))),
  order_lengthened growing strip order.1,
)

-- ---- all rows

module _ (a y b : ℤ) (done growing strip : List Trapezoid) (some : y <ℤ b) (lower : IsJoinedUpTo (row_range a y) done growing)
    (shots : All IsShot strip) (upper : IsJoined (row_range y b) strip) where
  abbrev Whole : List Trapezoid
  Whole = done ++ (ended strip growing ++ map (lengthened growing) strip)

  abbrev Below : Tile → Type 0
  Below = Has (done ++ growing)

  abbrev Above : Tile → Type 0
  Above = Has strip

  abbrev Either : Tile → Type 0
  Either t = 1 ≤ (count_in (done ++ growing) t + count_in strip t)

  low_one : (z : Trapezoid) → Contains (done ++ growing) z → IsMaximal Below (row_range a y) z
  low_one z h = one_maximal (row_range a y) (done ++ growing) lower.joined z h

  high_one : (u : Trapezoid) → Contains strip u → IsMaximal Above (row_range y b) u
  high_one u h = one_maximal (row_range y b) strip upper u h

  growing_one : (z : Trapezoid) → Contains growing z → IsMaximal Below (row_range a y) z
  growing_one z h = low_one z (Contains-append_right done growing z h)

  done_top : (z : Trapezoid) → Contains done z → z.y1 <ℤ y
  done_top z h = All-contains (λ (x : Trapezoid). x.y1 <ℤ y) done z lower.below h

  growing_top : (z : Trapezoid) → Contains growing z → z.y1 ≡ y
  growing_top z h = All-contains (λ (x : Trapezoid). x.y1 ≡ y) growing z lower.reach h

  low_top : (z : Trapezoid) → Contains (done ++ growing) z → z.y1 ≤ℤ y
  low_top z h = (low_one z h).in_window.high

  high_top : (u : Trapezoid) → Contains strip u → y <ℤ u.y1
  high_top u h = let m = high_one u h in let rows = m.legal.has_rows in let low = m.in_window.low in omega (arith, ints, rows, low)

  -- ---- tiles and runs of the rows below y, and of those from there on

  none_above : (t : Tile) → t.j <ℤ y → count_in strip t ≡ 0
  none_above t lt = none_counted t strip (λ f.
      (let low = (high_one f.0 f.1).in_window.low in let from = (has_in t f.0 f.2).above_bottom in omega (arith, ints, lt, low, from)))

  none_below : (t : Tile) → y ≤ℤ t.j → count_in (done ++ growing) t ≡ 0
  none_below t le = none_counted t (done ++ growing) (λ f.
      (let high = low_top f.0 f.1 in let to = (has_in t f.0 f.2).below_top in omega (arith, ints, le, high, to)))

  below_either : (t : Tile) → Below t → Either t
  below_either t h = omega (arith, h)

  above_either : (t : Tile) → Above t → Either t
  above_either t h = omega (arith, h)

  either_below : (t : Tile) → t.j <ℤ y → Either t → Below t
  either_below t lt h = let none = none_above t lt in omega (arith, none, h)

  either_above : (t : Tile) → y ≤ℤ t.j → Either t → Above t
  either_above t le h = let none = none_below t le in omega (arith, none, h)

  run_low : (l r : Line) (j : ℤ) → j <ℤ y → IsRunAt Below l r j → IsRunAt Either l r j
  run_low l r j lt run = run_in Below Either l r j (λ t e h. below_either t h) (λ t e h. either_below t (rw e lt) h) run

  low_run : (l r : Line) (j : ℤ) → j <ℤ y → IsRunAt Either l r j → IsRunAt Below l r j
  low_run l r j lt run = run_in Either Below l r j (λ t e h. either_below t (rw e lt) h) (λ t e h. below_either t h) run

  run_high : (l r : Line) (j : ℤ) → y ≤ℤ j → IsRunAt Above l r j → IsRunAt Either l r j
  run_high l r j le run = run_in Above Either l r j (λ t e h. above_either t h) (λ t e h. either_above t (rw e le) h) run

  high_run : (l r : Line) (j : ℤ) → y ≤ℤ j → IsRunAt Either l r j → IsRunAt Above l r j
  high_run l r j le run = run_in Either Above l r j (λ t e h. either_above t (rw e le) h) (λ t e h. above_either t h) run

  -- ---- those that end below the rows' top

  ends_maximal : (z : Trapezoid) → Contains (done ++ growing) z → (IsRunAt Either z.left z.right z.y1 → ⊥) → IsMaximal Either (row_range a b) z
  ends_maximal z h top =
      let m = low_one z h in
      let rows = m.legal.has_rows in
      let high = low_top z h in
      record {
        legal = m.legal;
        in_window = record { low = m.in_window.low; high = omega (arith, ints, high, some) };
        runs = λ j from to. run_low z.left z.right j (omega (arith, ints, high, to)) (m.runs j from to);
        top = λ lt run. top run;
        bottom = λ lt run. m.bottom lt (low_run z.left z.right (z.y0 -ℤ pos 1) (omega (arith, ints, rows, high)) run);
      }

  done_maximal : (z : Trapezoid) → Contains done z → IsMaximal Either (row_range a b) z
  done_maximal z h =
      let member = Contains-append_left done growing z h in
      let lt = done_top z h in
      ends_maximal z member (λ run. (low_one z member).top lt (low_run z.left z.right z.y1 lt run))

  -- one that goes on in no trapezoid of the strip has no run above it
  no_run_above : (z : Trapezoid) → Contains growing z → ends_below strip z ≡ true → IsRunAt Either z.left z.right z.y1 → ⊥
  no_run_above z h ends run =
      let at = growing_top z h in
      let u = holder (row_range y b) strip upper z.left z.right z.y1 (high_run z.left z.right z.y1 (omega (arith, ints, at)) run) in
      let low = (high_one u.w u.member).in_window.low in
      let from = u.from in
      let goes = goes_by z u.w (record { meet = omega (arith, ints, at, low, from); left = sym u.left; right = sym u.right }) in
      let one = list_any-from_Any (goes_on z) strip (any_by (λ (x : Trapezoid). goes_on z x ≡ true) u.w strip u.member goes) in
      clash (ends_below strip z) ends (rw one refl)

  ended_maximal : (z : Trapezoid) → Contains (ended strip growing) z → IsMaximal Either (row_range a b) z
  ended_maximal z h =
      let p = passing (ends_below strip) z growing h in
      ends_maximal z (Contains-append_right done growing z p.0) (no_run_above z p.0 p.1)

  -- ---- those that go on, and those that begin

  longer_shot : (z u : Trapezoid) → Contains growing z → Contains strip u → GoesOn z u → IsShot (trapezoid z.y0 u.y1 u.left u.right)
  longer_shot z u hz hu g =
      let first = All-contains IsShot (done ++ growing) z lower.shots (Contains-append_right done growing z hz) in
      let second = All-contains IsShot strip u shots hu in
      taller_shot z.y0 u.y0 u.y1 u.left u.right
      (subst IsShot (same_trapezoid z.y0 z.y0 z.y1 u.y0 z.left u.left z.right u.right refl g.meet g.left g.right) first) second

  longer_runs : (z u : Trapezoid) (j : ℤ) → Contains growing z → Contains strip u → GoesOn z u → z.y0 ≤ℤ j → j <ℤ u.y1
      → IsRunAt Either u.left u.right j
  longer_runs z u j hz hu g from to =
      let at = growing_top z hz in
      let meet = g.meet in
      by_lt_z j y
      (λ lt. moved_run Either z.left z.right u.left u.right j g.left g.right
      (run_low z.left z.right j lt ((growing_one z hz).runs j from (omega (arith, ints, at, lt)))))
      (λ le. run_high u.left u.right j le ((high_one u hu).runs j (omega (arith, ints, at, meet, le)) to))

  longer_maximal : (z u : Trapezoid) → Contains growing z → Contains strip u → GoesOn z u
      → IsMaximal Either (row_range a b) (trapezoid z.y0 u.y1 u.left u.right)
  longer_maximal z u hz hu g =
      let m = growing_one z hz in
      let n = high_one u hu in
      let rows = m.legal.has_rows in
      let at = growing_top z hz in
      let above = high_top u hu in
      record {
        legal = (longer_shot z u hz hu g).legal;
        in_window = record { low = m.in_window.low; high = n.in_window.high };
        runs = λ j from to. longer_runs z u j hz hu g from to;
        top = λ lt run. n.top lt (high_run u.left u.right u.y1 (omega (arith, ints, above)) run);
        bottom = λ lt run. m.bottom lt
            (moved_run Below u.left u.right z.left z.right (z.y0 -ℤ pos 1) (sym g.left) (sym g.right)
            (low_run u.left u.right (z.y0 -ℤ pos 1) (omega (arith, ints, rows, at)) run));
      }

  -- one at the strip's bottom in which none goes on has no run below it
  no_run_below : (u : Trapezoid) → Contains strip u → All (λ z. goes_on z u ≡ false) growing → u.y0 ≡ y
      → IsRunAt Either u.left u.right (u.y0 -ℤ pos 1) → ⊥
  no_run_below u h none at run =
      let z = holder (row_range a y) (done ++ growing) lower.joined u.left u.right (u.y0 -ℤ pos 1)
      (low_run u.left u.right (u.y0 -ℤ pos 1) (omega (arith, ints, at)) run) in
      let to = z.to in
      elim (Contains-append_cases done growing z.w z.member) [
        | inl hd ↦ (let lt = done_top z.w hd in omega (arith, ints, at, to, lt))
        | inr hg ↦ clash (goes_on z.w u)
            (goes_by z.w u (record { meet = growing_top z.w hg ∙ sym at; left = z.left; right = z.right }))
            (All-contains (λ (x : Trapezoid). goes_on x u ≡ false) growing z.w none hg)
      ]

  module _ (low : a ≤ℤ y) where
    new_maximal : (u : Trapezoid) → Contains strip u → All (λ z. goes_on z u ≡ false) growing → IsMaximal Either (row_range a b) u
    new_maximal u h none =
        let m = high_one u h in
        let from_y = m.in_window.low in
        let above = high_top u h in
        record {
          legal = m.legal;
          in_window = record { low = omega (arith, ints, low, from_y); high = m.in_window.high };
          runs = λ j from to. run_high u.left u.right j (omega (arith, ints, from_y, from)) (m.runs j from to);
          top = λ lt run. m.top lt (high_run u.left u.right u.y1 (omega (arith, ints, above)) run);
          bottom = λ lt run. by_lt_z y u.y0
              (λ over. m.bottom over (high_run u.left u.right (u.y0 -ℤ pos 1) (omega (arith, ints, over)) run))
              (λ under. no_run_below u h none (omega (arith, ints, from_y, under)) run);
        }

    lengthened_maximal : (u : Trapezoid) → Contains strip u → IsMaximal Either (row_range a b) (lengthened growing u)
    lengthened_maximal u h = elim (former growing u) [
      | inl f ↦ subst (λ (x : ℤ). IsMaximal Either (row_range a b) (trapezoid x u.y1 u.left u.right)) (sym f.bottom)
          (longer_maximal f.z u f.member h (goes_is f.z u f.goes))
      | inr n ↦ subst (λ (x : ℤ). IsMaximal Either (row_range a b) (trapezoid x u.y1 u.left u.right)) (sym n.bottom) (new_maximal u h n.none)
    ]

    each_maximal : All (IsMaximal Either (row_range a b)) Whole
    each_maximal =
        let P = IsMaximal Either (row_range a b) in
        All-append P done (ended strip growing ++ map (lengthened growing) strip) (all_members P done done_maximal)
        (All-append P (ended strip growing) (map (lengthened growing) strip) (all_members P (ended strip growing) ended_maximal)
        (all_members P (map (lengthened growing) strip)
        (λ z h. (let o = origin (lengthened growing) z strip h in subst P o.2 (lengthened_maximal o.0 o.1)))))

  -- ---- the order

  lengthened_top : (z : Trapezoid) → Contains (map (lengthened growing) strip) z → y <ℤ z.y1
  lengthened_top z h =
      let o = origin (lengthened growing) z strip h in
      let top : o.0.y1 ≡ z.y1 = ap (λ (x : Trapezoid). x.y1) o.2 in
      let above = high_top o.0 o.1 in
      omega (arith, ints, top, above)

  ended_top : (z : Trapezoid) → Contains (ended strip growing) z → z.y1 ≡ y
  ended_top z h = growing_top z (passing (ends_below strip) z growing h).0

  upper_order : StandInOrder (ended strip growing ++ map (lengthened growing) strip)
  upper_order =
      order_append (ended strip growing) (map (lengthened growing) strip)
      (order_filter (ends_below strip) growing (order_second done growing lower.joined.in_order))
      (order_lengthened growing strip upper.in_order)
      (λ z u hz hu. (let at = ended_top z hz in let above = lengthened_top u hu in inl (omega (arith, ints, at, above))))

  done_before : (z u : Trapezoid) → Contains done z → Contains (ended strip growing ++ map (lengthened growing) strip) u → z.y1 <ℤ u.y1
  done_before z u hz hu =
      let lt = done_top z hz in
      elim (Contains-append_cases (ended strip growing) (map (lengthened growing) strip) u hu) [
        | inl he ↦ (let at = ended_top u he in omega (arith, ints, lt, at))
        | inr hl ↦ (let above = lengthened_top u hl in omega (arith, ints, lt, above))
      ]

  whole_order : StandInOrder Whole
  whole_order = order_append done (ended strip growing ++ map (lengthened growing) strip)
      (order_first done growing lower.joined.in_order) upper_order (λ z u hz hu. inl (done_before z u hz hu))

  -- ---- each tile is in one of the whole list

  found_ended : (t : Tile) (z : Trapezoid) → Contains (ended strip growing) z → trapezoid_has t z ≡ true → Found t Whole
  found_ended t z h e = (
    z,
    Contains-append_right done (ended strip growing ++ map (lengthened growing) strip) z
        (Contains-append_left (ended strip growing) (map (lengthened growing) strip) z h),
    e,
  )

  found_lengthened : (t : Tile) (u : Trapezoid) → Contains strip u → IsInTrapezoid (lengthened growing u) t → Found t Whole
  found_lengthened t u h i = (
    lengthened growing u,
    Contains-append_right done (ended strip growing ++ map (lengthened growing) strip) (lengthened growing u)
        (Contains-append_right (ended strip growing) (map (lengthened growing) strip) (lengthened growing u) (mapped (lengthened growing) u strip h)),
    in_has t (lengthened growing u) i,
  )

  -- at most one goes on in a trapezoid
  same_bottom : (z u : Trapezoid) → Contains growing z → goes_on z u ≡ true → bottom_with growing u ≡ z.y0
  same_bottom z u h goes =
      elim (former growing u) [
        | inl f ↦ (let g = goes_is z u goes in
            let k = goes_is f.z u f.goes in
            let m = growing_one z h in
            let n = growing_one f.z f.member in
            let rows = m.legal.has_rows in
            let its_rows = n.legal.has_rows in
            let at = growing_top z h in
            let its_at = growing_top f.z f.member in
            f.bottom ∙ ap (λ (x : Trapezoid). x.y0)
            (same_rows Below (row_range a y) f.z z (y -ℤ pos 1) n m (k.left ∙ sym g.left) (k.right ∙ sym g.right)
            (omega (arith, ints, its_rows, its_at)) (omega (arith, ints, its_at)) (omega (arith, ints, rows, at)) (omega (arith, ints, at))))
        | inr n ↦ clash (goes_on z u) goes (All-contains (λ (x : Trapezoid). goes_on x u ≡ false) growing z n.none h)
      ]

  bottom_low : (u : Trapezoid) → Contains strip u → bottom_with growing u ≤ℤ u.y0
  bottom_low u h = elim (former growing u) [
    | inl f ↦ (let rows = (growing_one f.z f.member).legal.has_rows in
        let meet = (goes_is f.z u f.goes).meet in
        let e = f.bottom in
        omega (arith, ints, rows, meet, e))
    | inr n ↦ (let e = n.bottom in omega (arith, ints, e))
  ]

  found_growing : (p : Bool) (t : Tile) (z : Trapezoid) → Contains growing z → trapezoid_has t z ≡ true → list_any (goes_on z) strip ≡ p → Found t Whole
  found_growing false t z h has none = found_ended t z (passed (ends_below strip) z growing h (rw none refl)) has
  found_growing true t z h has one =
      let s = some_member (λ (x : Trapezoid). goes_on z x ≡ true) strip (Any-from_list_any (goes_on z) strip one) in
      let g = goes_is z s.0 s.2 in
      let i = has_in t z has in
      let e = same_bottom z s.0 h s.2 in
      let from = i.above_bottom in
      let to = i.below_top in
      let at = growing_top z h in
      let above = high_top s.0 s.1 in
      found_lengthened t s.0 s.1 (record {
        above_bottom = omega (arith, ints, e, from);
        below_top = omega (arith, ints, to, at, above);
        right_of_left = subst (IsRightOf t) g.left i.right_of_left;
        left_of_right = subst (IsLeftOf t) g.right i.left_of_right;
      })

  found_low : (t : Tile) → Found t (done ++ growing) → Found t Whole
  found_low t f =
      elim (Contains-append_cases done growing f.0 f.1) [
        | inl hd ↦ (f.0, Contains-append_left done (ended strip growing ++ map (lengthened growing) strip) f.0 hd, f.2)
        | inr hg ↦ found_growing _ t f.0 hg f.2 refl
      ]

  found_high : (t : Tile) → Found t strip → Found t Whole
  found_high t f =
      let i = has_in t f.0 f.2 in
      let low = bottom_low f.0 f.1 in
      let from = i.above_bottom in
      found_lengthened t f.0 f.1 (record {
        above_bottom = omega (arith, ints, low, from);
        below_top = i.below_top;
        right_of_left = i.right_of_left;
        left_of_right = i.left_of_right;
      })

  found_all : (t : Tile) → Either t → Found t Whole
  found_all t h = elim (some_or_none (count_in (done ++ growing) t)) [
    | inl s ↦ found_low t (found t (done ++ growing) s)
    | inr out ↦ (let none = not_some (count_in (done ++ growing) t) out in found_high t (found t strip (omega (arith, h, none))))
  ]

  -- ---- the whole list

  lengthened_shot : (u : Trapezoid) → Contains strip u → IsShot (lengthened growing u)
  lengthened_shot u h = elim (former growing u) [
    | inl f ↦ subst (λ (x : ℤ). IsShot (trapezoid x u.y1 u.left u.right)) (sym f.bottom) (longer_shot f.z u f.member h (goes_is f.z u f.goes))
    | inr n ↦ subst (λ (x : ℤ). IsShot (trapezoid x u.y1 u.left u.right)) (sym n.bottom) (All-contains IsShot strip u shots h)
  ]

  whole_shots : All IsShot Whole
  whole_shots =
      let low = lower.shots in
      All-append IsShot done (ended strip growing ++ map (lengthened growing) strip)
      (all_members IsShot done (λ z h. All-contains IsShot (done ++ growing) z low (Contains-append_left done growing z h)))
      (All-append IsShot (ended strip growing) (map (lengthened growing) strip)
      (all_members IsShot (ended strip growing) (λ z h. All-contains IsShot (done ++ growing) z low
      (Contains-append_right done growing z (passing (ends_below strip) z growing h).0)))
      (all_members IsShot (map (lengthened growing) strip)
      (λ z h. (let o = origin (lengthened growing) z strip h in subst IsShot o.2 (lengthened_shot o.0 o.1)))))

  whole_joined : a ≤ℤ y → IsJoined (row_range a b) Whole
  whole_joined low = maximal_joined Either (row_range a b) Whole whole_order (each_maximal low) found_all

  whole_count : a ≤ℤ y → (t : Tile) → count_in Whole t ≡ count_in (done ++ growing) t + count_in strip t
  whole_count low t =
      let covers = maximal_cover Either (row_range a b) Whole whole_order (each_maximal low) found_all in
      elim (some_or_none (count_in (done ++ growing) t + count_in strip t)) [
        | inl s ↦ (let once = covers.once t s in
            let most = lower.joined.apart t in
            let most_above = upper.apart t in
            by_lt_z t.j y
            (λ lt. (let none = none_above t lt in omega (arith, once, most, none, s)))
            (λ le. (let none = none_below t le in omega (arith, once, most_above, none, s))))
        | inr out ↦ covers.never t out ∙ sym (not_some _ out)
      ]

module _ (a y b : ℤ) (done growing strip : List Trapezoid) (some : y <ℤ b) (lower : IsJoinedUpTo (row_range a y) done growing)
    (shots : All IsShot strip) (upper : IsJoined (row_range y b) strip) where
  -- all are shots
  pub stacked_shots : All IsShot (done ++ (ended strip growing ++ map (lengthened growing) strip))
  stacked_shots = whole_shots a y b done growing strip some lower shots upper

  -- all are the joined list of all rows
  pub stacked_joined : a ≤ℤ y → IsJoined (row_range a b) (done ++ (ended strip growing ++ map (lengthened growing) strip))
  stacked_joined low = whole_joined a y b done growing strip some lower shots upper low

  -- together they have the tiles of both lists
  pub stacked_count : (t : Tile)
      → count_in (done ++ (ended strip growing ++ map (lengthened growing) strip)) t ≡ count_in (done ++ growing) t + count_in strip t
  stacked_count t =
      let c = int_min a y in
      let joined = wider a c y (done ++ growing) (omega (arith, ints, clamps)) lower.joined in
      let low : IsJoinedUpTo (row_range c y) done growing = record { shots = lower.shots; joined = joined; below = lower.below; reach = lower.reach } in
      whole_count c y b done growing strip some low shots upper (omega (arith, ints, clamps)) t

  -- all but the lengthened ones end below the rows' top
  pub ended_below : All (λ z. z.y1 <ℤ b) (done ++ ended strip growing)
  ended_below =
      let P : Trapezoid → Type 0 = λ z. z.y1 <ℤ b in
      All-append P done (ended strip growing)
      (all_members P done (λ z h. (let lt = done_top a y b done growing strip some lower shots upper z h in omega (arith, ints, lt, some))))
      (all_members P (ended strip growing) (λ z h.
      (let at = ended_top a y b done growing strip some lower shots upper z h in omega (arith, ints, at, some))))
