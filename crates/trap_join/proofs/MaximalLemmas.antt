-- A list that covers an area is joined exactly where it has exactly the area's maximal trapezoids.
use Rattle.std.proofs.Common.{◌≡◌, ◌≤◌, ℤ, pos, ◌-ℤ◌, ◌≤ℤ◌, ◌<ℤ◌, arith, refl, subst, ap, sym, List, [], ◌∷◌}
use Rattle.std.proofs.lemmas.Int.{ints, by_lt_z}
use Rattle.std.proofs.lemmas.List.Elements.{All-contains}
use Rattle.std.specs.List.{All, Contains}
use mathlib.Core.Logic.{◌⊎◌, inl, inr}
use Rattle.half_grid.specs.Rows.{place, number_in_row}
use Rattle.half_grid.specs.Trapezoids.{Trapezoid, IsInTrapezoid, IsLegal, CoversExactly, count_in}
use Rattle.half_grid.specs.Windows.{RowRange}
use Rattle.half_grid.specs.JoinedLists.{IsInWindow, IsBeside, StandsBefore, StandInOrder, IsJoined}
use Rattle.half_grid.specs.declared.plane.Tile.{Tile}
use Rattle.half_grid.specs.declared.plane.Line.{Line}
use Rattle.half_grid.proofs.ForCallers.{tile_with, tile_with_number, has_in, in_has, number_between, in_by_number, legal_places, same_trapezoid}
use Rattle.trap_join.specs.Maximal.{IsRunAt, IsMaximal, AreMaximal}
use Rattle.trap_join.proofs.Members.{among_rest, is_first, all_members, counted, Found, found, one_only, none_counted, once_more}
use Rattle.trap_join.proofs.Rows.{inside_at, same_left, same_right}

-- ---- tiles of a trapezoid, by numbers

-- the tile of this number in the row is in the trapezoid
pub in_at : (z : Trapezoid) (n j : ℤ) → z.y0 ≤ℤ j → j <ℤ z.y1 → place z.left j ≤ℤ n → n <ℤ place z.right j → IsInTrapezoid z (tile_with n j)
in_at z n j a b l r =
    let e = tile_with_number n j in
    in_by_number z (tile_with n j) (record { above_bottom = a; below_top = b; from_left = rw e l; below_right = rw e r })

pub from_left_at : (z : Trapezoid) (n j : ℤ) → IsInTrapezoid z (tile_with n j) → place z.left j ≤ℤ n
from_left_at z n j h = rw (tile_with_number n j) at (number_between z (tile_with n j) h).from_left

pub below_right_at : (z : Trapezoid) (n j : ℤ) → IsInTrapezoid z (tile_with n j) → n <ℤ place z.right j
below_right_at z n j h = rw (tile_with_number n j) at (number_between z (tile_with n j) h).below_right

-- no trapezoid stands before itself
pub not_itself : (z : Trapezoid) → StandsBefore z z → ⊥
not_itself z (inl a) = omega (arith, ints, a)
not_itself z (inr a) = omega (arith, ints, a.1)

module _ (area : Tile → Type 0) (window : RowRange) where
  -- a maximal trapezoid's tiles are in the area
  pub tile_inside : (z : Trapezoid) (t : Tile) → IsMaximal area window z → IsInTrapezoid z t → area t
  tile_inside z t m h =
      let n = number_between z t h in
      (m.runs t.j n.above_bottom n.below_top).inside t refl n.from_left n.below_right

  -- the tiles beside it aren't
  tile_beside : (z : Trapezoid) (t : Tile) → IsMaximal area window z → IsBeside z t → area t → ⊥
  tile_beside z t m h a =
      elim h.beside [
        | inl e ↦ (m.runs t.j h.above_bottom h.below_top).left_end t refl e a
        | inr e ↦ (m.runs t.j h.above_bottom h.below_top).right_end t refl e a
      ]

  -- a run of a row in which a maximal trapezoid has one of the run's tiles lies between the trapezoid's lines
  pub run_left : (z : Trapezoid) (l r : Line) (t : Tile) → IsMaximal area window z → IsInTrapezoid z t
      → IsRunAt area l r t.j → place l t.j ≤ℤ number_in_row t → number_in_row t <ℤ place r t.j → z.left ≡ l
  run_left z l r t m h run a b =
      let n = number_between z t h in
      same_left z.left z.right l r t.j (number_in_row t) (m.runs t.j n.above_bottom n.below_top) run n.from_left n.below_right a b

  pub run_right : (z : Trapezoid) (l r : Line) (t : Tile) → IsMaximal area window z → IsInTrapezoid z t
      → IsRunAt area l r t.j → place l t.j ≤ℤ number_in_row t → number_in_row t <ℤ place r t.j → z.right ≡ r
  run_right z l r t m h run a b =
      let n = number_between z t h in
      same_right z.left z.right l r t.j (number_in_row t) (m.runs t.j n.above_bottom n.below_top) run n.from_left n.below_right a b

  moved_run : (l r k s : Line) (j : ℤ) → l ≡ k → r ≡ s → IsRunAt area l r j → IsRunAt area k s j
  moved_run l r k s j el er run = subst (λ (x : Line). IsRunAt area k x j) er (subst (λ (x : Line). IsRunAt area x r j) el run)

  not_higher : (y z : Trapezoid) (j : ℤ) → IsMaximal area window y → IsMaximal area window z → y.left ≡ z.left
      → y.right ≡ z.right → z.y0 ≤ℤ j → j <ℤ y.y1 → y.y1 <ℤ z.y1 → ⊥
  not_higher y z j my mz el er a b c =
      my.top (let w = mz.in_window.high in omega (arith, ints, c, w))
      (moved_run z.left z.right y.left y.right y.y1 (sym el) (sym er) (mz.runs y.y1 (omega (arith, ints, a, b)) c))

  not_lower : (y z : Trapezoid) (j : ℤ) → IsMaximal area window y → IsMaximal area window z → y.left ≡ z.left
      → y.right ≡ z.right → z.y0 ≤ℤ j → j <ℤ y.y1 → y.y0 <ℤ z.y0 → ⊥
  not_lower y z j my mz el er a b c =
      mz.bottom (let w = my.in_window.low in omega (arith, ints, c, w))
      (moved_run y.left y.right z.left z.right (z.y0 -ℤ pos 1) el er
      (my.runs (z.y0 -ℤ pos 1) (omega (arith, ints, c)) (omega (arith, ints, a, b))))

  -- two maximal trapezoids with the same lines and a row in common are one
  pub same_rows : (y z : Trapezoid) (j : ℤ) → IsMaximal area window y → IsMaximal area window z → y.left ≡ z.left → y.right ≡ z.right
      → y.y0 ≤ℤ j → j <ℤ y.y1 → z.y0 ≤ℤ j → j <ℤ z.y1 → y ≡ z
  same_rows y z j my mz el er ya yb za zb =
      let bottoms : y.y0 ≡ z.y0 = by_lt_z y.y0 z.y0 (λ lt. absurd (not_lower y z j my mz el er za yb lt))
      (λ ge. by_lt_z z.y0 y.y0 (λ lt. absurd (not_lower z y j mz my (sym el) (sym er) ya zb lt))
      (λ le. omega (arith, ints, ge, le))) in
      let tops : y.y1 ≡ z.y1 = by_lt_z y.y1 z.y1 (λ lt. absurd (not_higher y z j my mz el er za yb lt))
      (λ ge. by_lt_z z.y1 y.y1 (λ lt. absurd (not_higher z y j mz my (sym el) (sym er) ya zb lt))
      (λ le. omega (arith, ints, ge, le))) in
      same_trapezoid y.y0 z.y0 y.y1 z.y1 y.left z.left y.right z.right bottoms tops el er

  -- two maximal trapezoids that share a tile are one
  pub same_maximal : (y z : Trapezoid) (t : Tile) → IsMaximal area window y → IsMaximal area window z → IsInTrapezoid y t → IsInTrapezoid z t → y ≡ z
  same_maximal y z t my mz hy hz =
      let n = number_between z t hz in
      let run = mz.runs t.j n.above_bottom n.below_top in
      same_rows y z t.j my mz (run_left y z.left z.right t my hy run n.from_left n.below_right)
      (run_right y z.left z.right t my hy run n.from_left n.below_right)
      hy.above_bottom hy.below_top hz.above_bottom hz.below_top

  -- ---- maximal trapezoids that cover the area are joined

  abbrev FindsAll : List Trapezoid → Type 0
  FindsAll traps = (t : Tile) → area t → Found t traps

  at_most_once : (traps : List Trapezoid) (t : Tile) → StandInOrder traps
      → ((z : Trapezoid) → Contains traps z → IsMaximal area window z) → count_in traps t ≤ 1
  at_most_once [] t order each = omega arith
  at_most_once (x ∷ xs) t order each =
      once_more t x xs (at_most_once xs t order.1 (λ z h. each z (among_rest x z xs h)))
      (λ e f. (let same = same_maximal x f.0 t (each x (is_first x xs)) (each f.0 (among_rest x f.0 xs f.1)) (has_in t x e) (has_in t f.0 f.2) in
      let before = All-contains (StandsBefore x) xs f.0 order.0 f.1 in
      not_itself x (subst (λ (u : Trapezoid). StandsBefore x u) (sym same) before)))

  module _ (traps : List Trapezoid) (order : StandInOrder traps) (each : All (IsMaximal area window) traps) where
    one : (z : Trapezoid) → Contains traps z → IsMaximal area window z
    one z h = All-contains (IsMaximal area window) traps z each h

    free : (z : Trapezoid) (t : Tile) → Contains traps z → IsBeside z t → count_in traps t ≡ 0
    free z t h beside =
        none_counted t traps (λ f. tile_beside z t (one z h) beside (tile_inside f.0 t (one f.0 f.1) (has_in t f.0 f.2)))

    apart_rows : (y z : Trapezoid) → Contains traps y → Contains traps z → y.left ≡ z.left → y.right ≡ z.right → y.y1 ≡ z.y0 → ⊥
    apart_rows y z hy hz el er e =
        let my = one y hy in
        let mz = one z hz in
        let rows = mz.legal.has_rows in
        let high = mz.in_window.high in
        my.top (omega (arith, ints, e, rows, high))
        (moved_run z.left z.right y.left y.right y.y1 (sym el) (sym er)
        (mz.runs y.y1 (omega (arith, ints, e)) (omega (arith, ints, e, rows))))

    pub maximal_joined : FindsAll traps → IsJoined window traps
    maximal_joined all = record {
      legal = all_members IsLegal traps (λ z h. (one z h).legal);
      in_window = all_members (IsInWindow window) traps (λ z h. (one z h).in_window);
      apart = λ t. at_most_once traps t order one;
      ends_free = free;
      not_stacked = apart_rows;
      in_order = order;
    }

    pub maximal_cover : FindsAll traps → CoversExactly traps area
    maximal_cover all = record {
      once = λ t a. (let f = all t a in let some = counted t f.0 traps f.1 f.2 in let most = at_most_once traps t order one in omega (arith, some, most));
      never = λ t out. none_counted t traps (λ f. out (tile_inside f.0 t (one f.0 f.1) (has_in t f.0 f.2)));
    }

  -- a list of maximal trapezoids that covers the area has them all
  pub all_found : (traps : List Trapezoid) → ((z : Trapezoid) → Contains traps z → IsMaximal area window z)
      → FindsAll traps → (z : Trapezoid) → IsMaximal area window z → Contains traps z
  all_found traps each all z m =
      let rows = m.legal.has_rows in
      let run = m.runs z.y0 (omega (arith, ints)) rows in
      let n = place z.left z.y0 in
      let i = in_at z n z.y0 (omega (arith, ints)) rows (omega (arith, ints)) run.has_tile in
      let f = all (tile_with n z.y0) (tile_inside z (tile_with n z.y0) m i) in
      let e = same_maximal f.0 z (tile_with n z.y0) (each f.0 f.1) m (has_in (tile_with n z.y0) f.0 f.2) i in
      subst (λ (u : Trapezoid). Contains traps u) e f.1

-- ---- a joined list has the maximal trapezoids

-- each tile of the area is in a member of a list that covers it
pub covered : (area : Tile → Type 0) (traps : List Trapezoid) → CoversExactly traps area → (t : Tile) → area t → Found t traps
covered area traps covers t a = let n = covers.once t a in found t traps (omega (arith, n))

module _ (area : Tile → Type 0) (window : RowRange) (traps : List Trapezoid)
    (decided : (t : Tile) → area t ⊎ (area t → ⊥)) (covers : CoversExactly traps area)
    (joined : IsJoined window traps) where
  in_area : (z : Trapezoid) (t : Tile) → Contains traps z → IsInTrapezoid z t → area t
  in_area z t h i =
      elim (decided t) [ inl a ↦ a | inr out ↦ absurd (let n = covers.never t out in let some = counted t z traps h (in_has t z i) in omega (arith, n, some)) ]

  not_in_area : (z : Trapezoid) (t : Tile) → Contains traps z → IsBeside z t → area t → ⊥
  not_in_area z t h beside a = let n = joined.ends_free z t h beside in let one = covers.once t a in omega (arith, n, one)

  runs_of : (z : Trapezoid) (j : ℤ) → Contains traps z → z.y0 ≤ℤ j → j <ℤ z.y1 → IsRunAt area z.left z.right j
  runs_of z j h a b = record {
    has_tile = legal_places z j (All-contains IsLegal traps z joined.legal h) a b;
    inside = λ t e l r. in_area z t h (in_by_number z t (record { above_bottom = rw e a; below_top = rw e b; from_left = rw e l; below_right = rw e r }));
    left_end = λ t e n. not_in_area z t h (record { above_bottom = rw e a; below_top = rw e b; beside = inl (rw e n) });
    right_end = λ t e n. not_in_area z t h (record { above_bottom = rw e a; below_top = rw e b; beside = inr (rw e n) });
  }

  found_in : (t : Tile) → area t → Found t traps
  found_in t a = covered area traps covers t a

  -- the member in which a run begins, and that it lies between the run's lines
  record Holds (l r : Line) (j : ℤ) : Type 0 where
    w : Trapezoid
    member : Contains traps w
    left : w.left ≡ l
    right : w.right ≡ r
    from : w.y0 ≤ℤ j
    to : j <ℤ w.y1

  holder : (l r : Line) (j : ℤ) → IsRunAt area l r j → Holds l r j
  holder l r j run =
      let n = place l j in
      let f = found_in (tile_with n j) (inside_at l r j n run (omega (arith, ints)) run.has_tile) in
      let h = has_in (tile_with n j) f.0 f.2 in
      let own = runs_of f.0 j f.1 h.above_bottom h.below_top in
      let a = from_left_at f.0 n j h in
      let b = below_right_at f.0 n j h in
      record {
        w = f.0;
        member = f.1;
        left = same_left f.0.left f.0.right l r j n own run a b (omega (arith, ints)) run.has_tile;
        right = same_right f.0.left f.0.right l r j n own run a b (omega (arith, ints)) run.has_tile;
        from = h.above_bottom;
        to = h.below_top;
      }

  -- two members with the same left line and a row in common are one
  same_member : (y z : Trapezoid) (j : ℤ) → Contains traps y → Contains traps z → y.left ≡ z.left → y.y0 ≤ℤ j → j <ℤ y.y1 → z.y0 ≤ℤ j → j <ℤ z.y1 → y ≡ z
  same_member y z j hy hz el ya yb za zb =
      let py = legal_places y j (All-contains IsLegal traps y joined.legal hy) ya yb in
      let pz = legal_places z j (All-contains IsLegal traps z joined.legal hz) za zb in
      let e : place y.left j ≡ place z.left j = ap (λ (x : Line). place x j) el in
      one_only (tile_with (place z.left j) j) traps y z (joined.apart (tile_with (place z.left j) j)) hy hz
      (in_has (tile_with (place z.left j) j) y (in_at y (place z.left j) j ya yb (omega (arith, ints, e)) (omega (arith, ints, e, py))))
      (in_has (tile_with (place z.left j) j) z (in_at z (place z.left j) j za zb (omega (arith, ints)) pz))

  no_run_above : (z : Trapezoid) → Contains traps z → IsRunAt area z.left z.right z.y1 → ⊥
  no_run_above z h run =
      let m = holder z.left z.right z.y1 run in
      let rows = (All-contains IsLegal traps z joined.legal h).has_rows in
      by_lt_z m.w.y0 z.y1
      (λ lt. (let e = same_member m.w z (z.y1 -ℤ pos 1) m.member h m.left (omega (arith, ints, lt))
      (let t = m.to in omega (arith, ints, t)) (omega (arith, ints, rows)) (omega (arith, ints)) in
      let top : m.w.y1 ≡ z.y1 = ap (λ (u : Trapezoid). u.y1) e in
      let t = m.to in omega (arith, ints, top, t)))
      (λ ge. joined.not_stacked z m.w h m.member (sym m.left) (sym m.right) (let f = m.from in omega (arith, ints, ge, f)))

  no_run_below : (z : Trapezoid) → Contains traps z → IsRunAt area z.left z.right (z.y0 -ℤ pos 1) → ⊥
  no_run_below z h run =
      let m = holder z.left z.right (z.y0 -ℤ pos 1) run in
      let rows = (All-contains IsLegal traps z joined.legal h).has_rows in
      by_lt_z z.y0 m.w.y1
      (λ lt. (let e = same_member m.w z z.y0 m.member h m.left (let f = m.from in omega (arith, ints, f)) lt (omega (arith, ints)) rows in
      let bottom : m.w.y0 ≡ z.y0 = ap (λ (u : Trapezoid). u.y0) e in
      let f = m.from in omega (arith, ints, bottom, f)))
      (λ ge. joined.not_stacked m.w z m.member h m.left m.right (let t = m.to in omega (arith, ints, ge, t)))

  pub member_maximal : (z : Trapezoid) → Contains traps z → IsMaximal area window z
  member_maximal z h = record {
    legal = All-contains IsLegal traps z joined.legal h;
    in_window = All-contains (IsInWindow window) traps z joined.in_window h;
    runs = λ j a b. runs_of z j h a b;
    top = λ _ run. no_run_above z h run;
    bottom = λ _ run. no_run_below z h run;
  }

  pub joined_maximal : AreMaximal area window traps
  joined_maximal = record { each = all_members (IsMaximal area window) traps member_maximal; all = all_found area window traps member_maximal found_in }
