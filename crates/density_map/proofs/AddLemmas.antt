-- A trapezoid's tiles, added window by window.
use Rattle.std.proofs.Common.{ℕ, ◌+◌, ◌^◌, ◌≡◌, inl, inr, ℤ, pos, neg_ℤ, ◌+ℤ◌, ◌-ℤ◌, ◌*ℤ◌, ◌≤ℤ◌, ◌<ℤ◌, List, arith, refl, ap, subst, ◌∙◌, sym}
use Rattle.std.proofs.lemmas.Int.{ints, by_lt_z}
use Rattle.half_grid.specs.Trapezoids.{Trapezoid}
use Rattle.half_grid.proofs.ForCallers.{int_eq_same, int_eq_other}
use Rattle.density_map.specs.declared.counts.Counted.{Counted}
use Rattle.density_map.specs.Frames.{IsNearSide, count_in_frame}
use Rattle.density_map.specs.Windows.{IsWindowSize, window}
use Rattle.density_map.specs.Counts.{IsCountedMore, count_at, tiles_at}
use Rattle.density_map.specs.Rows.{AreColumnsOf, AreAdded, counted_in, least_x, greatest_x}
use Rattle.density_map.proofs.FloorLemmas.{next_side, multiples}
use Rattle.density_map.proofs.BoxLemmas.{none_beside}

-- the columns of a box whose ends the code found: least and greatest are its X's
pub columns_are : (size : ℤ) (z : Trapezoid) (least greatest q r : ℤ) → least ≡ least_x z → greatest ≡ greatest_x z
    → (q *ℤ size) ≤ℤ least → least <ℤ ((q +ℤ pos 1) *ℤ size) → (r *ℤ size) ≤ℤ (greatest -ℤ pos 1) → (greatest -ℤ pos 1) <ℤ ((r +ℤ pos 1) *ℤ size)
    → AreColumnsOf size z q (r +ℤ pos 1)
columns_are size z least greatest q r e f a b d g = record {
  from = subst (λ (x : ℤ). (q *ℤ size) ≤ℤ x) e a;
  not_before = subst (λ (x : ℤ). x <ℤ ((q +ℤ pos 1) *ℤ size)) e b;
  up_to = subst (λ (x : ℤ). x ≤ℤ ((r +ℤ pos 1) *ℤ size)) f (omega (arith, ints, g));
  not_after = subst (λ (x : ℤ). ((((r +ℤ pos 1) -ℤ pos 1) *ℤ size)) <ℤ x) f
      (subst (λ (k : ℤ). (k *ℤ size) <ℤ greatest) (let back : r ≡ (r +ℤ pos 1) -ℤ pos 1 = omega (arith, ints) in back)
      (omega (arith, ints, d)));
}

pub low_side : (size q least : ℤ) → IsWindowSize size → neg_ℤ (pos (2 ^ 44)) ≤ℤ least → least <ℤ ((q +ℤ pos 1) *ℤ size) → neg_ℤ (pos (2 ^ 45)) ≤ℤ (q *ℤ size)
low_side size q least h low below =
    let e = next_side q size in
    let high = h.high in
    omega (arith, ints, e, high, low, below)

pub high_side : (size r greatest : ℤ) → greatest ≤ℤ pos (2 ^ 44) → (r *ℤ size) ≤ℤ (greatest -ℤ pos 1) → (((r +ℤ pos 1) -ℤ pos 1) *ℤ size) ≤ℤ pos (2 ^ 44)
high_side size r greatest high from = subst (λ (k : ℤ). (k *ℤ size) ≤ℤ pos (2 ^ 44))
    (let back : r ≡ (r +ℤ pos 1) -ℤ pos 1 = omega (arith, ints) in back) (omega (arith, ints, high, from))

-- ---- window by window

-- the tiles are added in the windows before a column, and in no other
pub record IsAddedBefore (size row : ℤ) (z : Trapezoid) (old now : List Counted) (first : ℤ) : Type 0 where
  pub done : (i : ℤ) → i <ℤ first → count_at i now ≡ count_at i old + count_in_frame (window size i row) z
  pub rest : (i : ℤ) → first ≤ℤ i → count_at i now ≡ count_at i old

positive : (size : ℤ) → IsWindowSize size → pos 0 <ℤ size
positive size h = let low = h.low in omega (arith, ints, low)

none_before : (size row first end i : ℤ) (z : Trapezoid) → IsWindowSize size → AreColumnsOf size z first end
    → i <ℤ first → count_in_frame (window size i row) z ≡ 0
none_before size row first end i z h columns less =
    let up = multiples (i +ℤ pos 1) first size (positive size h) (omega (arith, ints, less)) in
    let from = columns.from in
    none_beside z (window size i row) (inl (omega (arith, ints, up, from)))

none_after : (size row first end i : ℤ) (z : Trapezoid) → IsWindowSize size → AreColumnsOf size z first end → end ≤ℤ i
    → count_in_frame (window size i row) z ≡ 0
none_after size row first end i z h columns more =
    let up = multiples end i size (positive size h) more in
    let to = columns.up_to in
    none_beside z (window size i row) (inr (omega (arith, ints, up, to)))

pub none_added : (size row first end : ℤ) (z : Trapezoid) (old now : List Counted) → IsWindowSize size
    → AreColumnsOf size z first end → now ≡ old → IsAddedBefore size row z old now first
none_added size row first end z old now h columns e = record {
  done = λ i less. ap (count_at i) e ∙ (let none = none_before size row first end i z h columns less in omega (arith, none));
  rest = λ i from. ap (count_at i) e;
}

tiles_here : (i column : ℤ) (n : ℕ) → i ≡ column → tiles_at i (record { column = column; tiles = n }) ≡ n
tiles_here i column n e = rw (int_eq_same column i (sym e)) refl

tiles_there : (i column : ℤ) (n : ℕ) → (column ≡ i → ⊥) → tiles_at i (record { column = column; tiles = n }) ≡ 0
tiles_there i column n apart = rw (int_eq_other column i apart) refl

pub one_added : (size row first next : ℤ) (z : Trapezoid) (old now new : List Counted)
    → IsAddedBefore size row z old now first → IsCountedMore now (counted_in size row z first) new
    → next ≡ first +ℤ pos 1
    → IsAddedBefore size row z old new next
one_added size row first next z old now new before more e = record {
  done = λ i less. by_lt_z i first
      (λ below. more i ∙ (
      let was = before.done i below in
      let none = tiles_there i first (count_in_frame (window size first row) z) (λ same. omega (arith, ints, below, same)) in
      omega (arith, was, none)
      ))
      (λ from. (
      let here : i ≡ first = omega (arith, ints, from, less, e) in
      let was = before.rest i from in
      let all = tiles_here i first (count_in_frame (window size first row) z) here in
      let same : count_in_frame (window size first row) z ≡ count_in_frame (window size i row) z = ap
      (λ (k : ℤ). count_in_frame (window size k row) z) (sym here) in
      let sum = more i in
      omega (arith, sum, was, all, same)
      ));
  rest = λ i from. (
      let was = before.rest i (omega (arith, ints, from, e)) in
      let none = tiles_there i first (count_in_frame (window size first row) z) (λ same. omega (arith, ints, from, e, same)) in
      let sum = more i in
      omega (arith, sum, was, none)
      );
}

pub all_added : (size row start first end : ℤ) (z : Trapezoid) (old now : List Counted) → IsWindowSize size
    → AreColumnsOf size z start end → IsAddedBefore size row z old now first → end ≤ℤ first
    → AreAdded size row old z now
all_added size row start first end z old now h columns before last i =
    by_lt_z i first
    (λ less. before.done i less)
    (λ from. (
    let was = before.rest i from in
    let none = none_after size row start end i z h columns (omega (arith, ints, from, last)) in
    omega (arith, was, none)
    ))

-- ---- the sides of the next window

pub side_near : (size first end : ℤ) → IsWindowSize size → neg_ℤ (pos (2 ^ 45)) ≤ℤ (first *ℤ size)
    → ((end -ℤ pos 1) *ℤ size) ≤ℤ pos (2 ^ 44) → first <ℤ end → IsNearSide (first *ℤ size)
side_near size first end h low high less =
    let up = multiples first (end -ℤ pos 1) size (positive size h) (omega (arith, ints, less)) in
    record { low = low; high = omega (arith, ints, up, high) }

pub next_near : (size first end : ℤ) → IsWindowSize size → neg_ℤ (pos (2 ^ 45)) ≤ℤ (first *ℤ size)
    → ((end -ℤ pos 1) *ℤ size) ≤ℤ pos (2 ^ 44) → first <ℤ end → IsNearSide ((first +ℤ pos 1) *ℤ size)
next_near size first end h low high less =
    let up = multiples first (end -ℤ pos 1) size (positive size h) (omega (arith, ints, less)) in
    let e = next_side first size in
    let least = h.low in
    let most = h.high in
    record { low = omega (arith, ints, low, e, least); high = omega (arith, ints, up, high, e, most) }
