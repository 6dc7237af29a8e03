-- Sides in order, and which of them overlap one.
use Rattle.std.proofs.Common.{◌≡◌, ℕ, ◌+◌, ◌-◌, ◌≤◌, ◌<◌, ◌≤ℤ◌, ◌<ℤ◌, Some, List, length, slice_get, get_or, arith, sym, subst}
use Rattle.std.proofs.lemmas.Bool.{cases_lt}
use Rattle.std.proofs.lemmas.Int.{ints, by_lt_z}
use Rattle.std.proofs.lemmas.Option.{slice_get_within, slice_get-get_or, get_or_from_slice_get}
use mathlib.Core.Logic.{◌⊎◌, inl, inr}
use Rattle.square_size.specs.Levels.{IsNoLater, AreInOrder, IsBefore, EndsBefore, IsRank, AreOverlapping}
use Rattle.square_size.specs.declared.levels.Level.{Level}

-- ---- the order

no_later_itself : (a b : Level) → a ≡ b → IsNoLater a b
no_later_itself a b e =
    let itself : IsNoLater a a = record { ys = omega (arith, ints); starts = λ s. omega (arith, ints); ends = λ s. omega (arith, ints) } in
    subst (λ (x : Level). IsNoLater a x) e itself

no_later_on : (a b c : Level) → IsNoLater a b → IsNoLater b c → IsNoLater a c
no_later_on a b c p q =
    let first : a.y ≡ c.y → a.y ≡ b.y = λ e. omega (arith, ints, e, p.ys, q.ys) in
    let second : a.y ≡ c.y → b.y ≡ c.y = λ e. omega (arith, ints, e, p.ys, q.ys) in
    record {
      ys = omega (arith, ints, p.ys, q.ys);
      starts = λ e. omega (arith, ints, p.starts (first e), q.starts (second e));
      ends = λ e. omega (arith, ints, p.ends (first e), q.ends (second e));
    }

-- the first so many are in order
abbrev pub AreInOrderTo : List Level → ℕ → Type 0
AreInOrderTo levels n = (j k : ℕ) (a b : Level) → j ≤ k → k < n → slice_get levels j ≡ Some a → slice_get levels k ≡ Some b → IsNoLater a b

module _ (levels : List Level) (n : ℕ) (d : Level) (some : 1 ≤ n) (within : n < length levels) (order : AreInOrderTo levels n)
    (last : IsNoLater (get_or levels (n - 1) d) (get_or levels n d)) where
  -- what stands among those in order is no later than the next one
  before_next : (j : ℕ) (a : Level) → j < n → slice_get levels j ≡ Some a → IsNoLater a (get_or levels n d)
  before_next j a lt ea =
      let at = slice_get-get_or levels (n - 1) d (omega (arith, some, within)) in
      let before = order j (n - 1) a _ (omega (arith, some, lt)) (omega (arith, some)) ea at in
      no_later_on a (get_or levels (n - 1) d) (get_or levels n d) before last

  up_to_next : (j : ℕ) (a : Level) → (j < n) ⊎ (n ≤ j) → j ≤ n → slice_get levels j ≡ Some a → IsNoLater a (get_or levels n d)
  up_to_next j a (inl lt) le ea = before_next j a lt ea
  up_to_next j a (inr ge) le ea =
      let e : j ≡ n = omega (arith, ge, le) in
      no_later_itself a (get_or levels n d) (sym (get_or_from_slice_get levels n a d (rw (← e) ea)))

  more_by : (j k : ℕ) (a b : Level) → (k < n) ⊎ (n ≤ k) → j ≤ k → k < n + 1 → slice_get levels j ≡ Some a → slice_get levels k ≡ Some b → IsNoLater a b
  more_by j k a b (inl lt) le up ea eb = order j k a b le lt ea eb
  more_by j k a b (inr ge) le up ea eb =
      let e : k ≡ n = omega (arith, ge, up) in
      let is : get_or levels n d ≡ b = get_or_from_slice_get levels n b d (rw (← e) eb) in
      subst (λ (x : Level). IsNoLater a x) is (up_to_next j a (cases_lt j n) (omega (arith, le, e)) ea)

  -- One that is no earlier than the last of those in order may stand next.
  pub order_of_one_more : AreInOrderTo levels (n + 1)
  order_of_one_more = λ j k a b le up ea eb. more_by j k a b (cases_lt k n) le up ea eb

-- All of them are in order.
pub whole_order : (levels : List Level) (n : ℕ) → length levels ≤ n → AreInOrderTo levels n → AreInOrder levels
whole_order levels n h order = λ j k a b le ea eb. (let w = slice_get_within levels k b eb in order j k a b le (omega (arith, w, h)) ea eb)

-- ---- the search

-- what stands before a side that begins left of the end is before that end itself
before_earlier : (n a side : Level) → IsNoLater n a → a.y ≡ side.y → a.x0 <ℤ side.x1 → IsBefore n side
before_earlier n a side h e lt =
    by_lt_z n.y side.y
    (λ l. inl l)
    (λ g. (let y : n.y ≡ a.y = omega (arith, ints, h.ys, e, g) in inr (omega (arith, ints, y, e), omega (arith, ints, lt, h.starts y))))

-- none from the rank on overlaps
none_later : (levels : List Level) (side : Level) (rank : ℕ) → AreInOrder levels → IsRank levels side rank
    → (a : Level) (k : ℕ) → rank ≤ k → k < length levels → slice_get levels k ≡ Some a → AreOverlapping a side → ⊥
none_later levels side rank order is a k le lt at over =
    let next = slice_get-get_or levels rank a (omega (arith, le, lt)) in
    is.next _ next (before_earlier _ a side (order rank k _ a le next at) over.ys over.starts)

-- A side that overlaps stands before the rank.
pub met_before_rank : (levels : List Level) (side : Level) (rank : ℕ) → AreInOrder levels → IsRank levels side rank
    → (a : Level) (k : ℕ) → slice_get levels k ≡ Some a → AreOverlapping a side → k < rank
met_before_rank levels side rank order is a k at over = elim (cases_lt k rank) [
  | inl lt ↦ lt
  | inr ge ↦ absurd (none_later levels side rank order is a k ge (slice_get_within levels k a at) at over)
]

-- a side before another isn't higher
no_higher : (m side : Level) → IsBefore m side → m.y ≤ℤ side.y
no_higher m side (inl lt) = omega (arith, ints, lt)
no_higher m side (inr at) = omega (arith, ints, at.0)

-- a side doesn't overlap where a later one, which isn't higher, doesn't reach the other side
ends_earlier : (a m side : Level) → IsNoLater a m → m.y ≤ℤ side.y → EndsBefore m side → AreOverlapping a side → ⊥
ends_earlier a m side h low (inl l) over = omega (arith, ints, l, h.ys, over.ys)
ends_earlier a m side h low (inr g) over =
    let y : a.y ≡ m.y = omega (arith, ints, h.ys, low, over.ys) in
    omega (arith, ints, h.ends y, g, over.ends)

-- Where one before the rank doesn't reach a side, none up to it overlaps.
pub none_up_to : (levels : List Level) (side d : Level) (rank low : ℕ) → AreInOrder levels → IsRank levels side rank → 0 < low → low ≤ rank
    → EndsBefore (get_or levels (low - 1) d) side → (a : Level) (k : ℕ) → k < low → slice_get levels k ≡ Some a → AreOverlapping a side → ⊥
none_up_to levels side d rank low order is some le ends a k lt at over =
    let within = is.within in
    let last = slice_get-get_or levels (rank - 1) d (omega (arith, some, le, within)) in
    let here = slice_get-get_or levels (low - 1) d (omega (arith, some, le, within)) in
    let under = order (low - 1) (rank - 1) (get_or levels (low - 1) d) (get_or levels (rank - 1) d) (omega (arith, some, le)) here last in
    let high = no_higher (get_or levels (rank - 1) d) side (is.last (rank - 1) (get_or levels (rank - 1) d) (omega (arith, some, le)) last) in
    let ys = under.ys in
    ends_earlier a (get_or levels (low - 1) d) side (order k (low - 1) a _ (omega (arith, some, lt)) at here) (omega (arith, ints, high, ys)) ends over
