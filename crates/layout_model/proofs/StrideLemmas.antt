-- Steps along an axis, and the places of a grid by row and column.
use Rattle.std.proofs.Common.{◌≡◌, ◌<◌, ◌≤◌, ◌+◌, ◌-◌, ◌*◌, ◌/◌, ◌%◌, ◌^◌, ◌↔◌, ◌⊎◌, inl, inr, ℕ, ℤ, zero, suc, pos}
use Rattle.std.proofs.Common.{negsuc, neg_ℤ, ◌+ℤ◌, ◌-ℤ◌, ◌*ℤ◌, ◌≤ℤ◌, ◌<ℤ◌, Option, Some, None, ◌∙◌, ap, sym, subst}
use Rattle.std.proofs.Common.{refl, arith, FitsSigned, w64, unsigned_abs}
use Rattle.std.proofs.Math.IntN.{pos-*ℤ-pos, pos-*ℤ-negsuc, zero-*ℤ, *ℤ-zero}
use Rattle.std.proofs.Math.Nat.{mod-lt, div-lt_iff_lt-mul, mul-le-mul, eq-or-lt_of_le}
use Rattle.std.proofs.lemmas.Bool.{cases_lt}
use Rattle.std.proofs.lemmas.Nat.{div-mul-add, mod-mul-add, div-add-mod'}
use Rattle.std.proofs.lemmas.Int.{ints, clamps, fits_signed_from_abs}
use Rattle.std.specs.Int.{int_min, int_max}
use Rattle.half_grid.specs.Reach.{IsWithinReach}
use Rattle.layout_model.specs.Intervals.{IsBetween}
use Rattle.layout_model.specs.Strides.{after_steps, mark, IsNearby, IsStride, IsRuler, HasNoneBetween, IsFirstBetween, Finds}
use Rattle.layout_model.specs.declared.intervals.Interval.{Interval}
use Rattle.layout_model.specs.declared.strides.Stride.{Stride}
use Rattle.layout_model.specs.declared.strides.Ruler.{Ruler}
use Rattle.layout_model.proofs.HullLemmas.{farther, nearer, column_inside, row_inside}

-- ---- how many steps go so far

pub steps_least : (l p n : ℕ) → 1 ≤ p → ((l + (p - 1)) / p ≤ n) ↔ (l ≤ n * p)
steps_least l p n some =
    let d = div-lt_iff_lt-mul {k = p} {x = l + (p - 1)} {y = n + 1} (omega arith) in (
      λ h. (let e = d.0 (omega arith) in let f : (n + 1) * p ≡ n * p + p = omega arith in omega (arith, e, f)),
      λ h. (let f : (n + 1) * p ≡ n * p + p = omega arith in let e = d.1 (omega (arith, f, h)) in omega (arith, e)),
    )

pub steps_exact : (length pace : ℤ) (l p n : ℕ) → length ≡ pos l → pace ≡ pos p → 1 ≤ p → (length ≤ℤ (pos n *ℤ pace)) ↔ ((l + (p - 1)) / p ≤ n)
steps_exact length pace l p n el ep some = rw (el, ep, pos-*ℤ-pos n p) (
  (λ h. (steps_least l p n some).1 (omega (arith, ints, h))),
  (λ h. (let e = (steps_least l p n some).0 h in omega (arith, ints, e))),
)

neg_product : (n : ℕ) (z : ℤ) → pos n *ℤ neg_ℤ z ≡ neg_ℤ (pos n *ℤ z)
neg_product zero z = rw (zero-*ℤ (neg_ℤ z), zero-*ℤ z) refl
neg_product (suc n) (pos zero) = rw (*ℤ-zero (pos (suc n))) refl
neg_product (suc n) (pos (suc m)) = rw (pos-*ℤ-negsuc (suc n) m, pos-*ℤ-pos (suc n) (suc m)) refl
neg_product (suc n) (negsuc m) = rw (pos-*ℤ-negsuc (suc n) m, pos-*ℤ-pos (suc n) (suc m)) (omega (arith, ints))

-- ---- steps up and down

pub up_onward : (low high start step length : ℤ) (r n m : ℕ) → length ≡ low -ℤ start → (length ≤ℤ (pos n *ℤ step))
    ↔ (r ≤ n) → pos 0 ≤ℤ step → r ≤ n → n ≤ m → IsBetween low high (start +ℤ (pos m *ℤ step))
    → IsBetween low high (start +ℤ (pos n *ℤ step))
up_onward low high start step length r n m e g up h k between =
    let a = g.1 h in
    let b = between.below in
    let f = farther n m step k up in
    record { above = omega (arith, ints, a, e); below = omega (arith, ints, b, f) }

pub down_early : (low high start step length pace : ℤ) (r n : ℕ) → length ≡ start -ℤ high → pace ≡ neg_ℤ step
    → (length ≤ℤ (pos n *ℤ pace)) ↔ (r ≤ n) → n < r → ¬ IsBetween low high (start +ℤ (pos n *ℤ step))
down_early low high start step length pace r n e p g h between =
    let b = between.below in
    let q = ap (λ z. pos n *ℤ z) p ∙ neg_product n step in
    let k = g.0 (omega (arith, ints, b, e, q)) in
    absurd (omega arith)

pub down_onward : (low high start step length pace : ℤ) (r n m : ℕ) → length ≡ start -ℤ high → pace ≡ neg_ℤ step
    → (length ≤ℤ (pos n *ℤ pace)) ↔ (r ≤ n) → step <ℤ pos 0 → r ≤ n → n ≤ m
    → IsBetween low high (start +ℤ (pos m *ℤ step)) → IsBetween low high (start +ℤ (pos n *ℤ step))
down_onward low high start step length pace r n m e p g down h k between =
    let a = between.above in
    let b = g.1 h in
    let q = ap (λ z. pos n *ℤ z) p ∙ neg_product n step in
    let f = nearer n m step k down in
    record { above = omega (arith, ints, a, f); below = omega (arith, ints, b, e, q) }

-- ---- searches

pub none_both : (interval : Interval) (f : ℕ → ℤ) (from mid end : ℕ) → HasNoneBetween interval f from mid
    → HasNoneBetween interval f mid end → HasNoneBetween interval f from end
none_both interval f from mid end p q = λ k after before between. by_order k (cases_lt k mid) after before between
  where
    by_order : (k : ℕ) → (k < mid) ⊎ (mid ≤ k) → from ≤ k → k < end → ¬ IsBetween interval.low interval.high (f k)
    by_order k (inl h) after before between = p k after h between
    by_order k (inr h) after before between = q k h before between

-- what is found past a part that has none is found past the part before it
pub found_behind : (interval : Interval) (f : ℕ → ℤ) (from mid end : ℕ) (found : Option ℕ) → from ≤ mid
    → HasNoneBetween interval f from mid → Finds interval f mid end found → Finds interval f from end found
found_behind interval f from mid end None early p q = none_both interval f from mid end p q
found_behind interval f from mid end (Some k) early p q =
    let a = q.after in
    record { after = omega arith; before = q.before; inside = q.inside; none = none_both interval f from mid k p q.none }

-- a find stays one where there are more after it
pub found_sooner : (interval : Interval) (f : ℕ → ℤ) (from end more k : ℕ) → end ≤ more
    → IsFirstBetween interval f from end k → IsFirstBetween interval f from more k
found_sooner interval f from end more k h q = let b = q.before in record { after = q.after; before = omega arith; inside = q.inside; none = q.none }

-- ---- rows and columns

pub mark_at : (ruler : Ruler) (row column : ℕ) → column < ruler.nu → mark ruler (row * ruler.nu + column) ≡ (pos column *ℤ ruler.u) +ℤ (pos row *ℤ ruler.v)
mark_at ruler row column h = rw (div-mul-add row ruler.nu column h, mod-mul-add row ruler.nu column h) refl

mark_steps : (ruler : Ruler) (stride : Stride) (row column : ℕ)
    → stride.start ≡ (pos 0 *ℤ ruler.u) +ℤ (pos row *ℤ ruler.v) → stride.step ≡ ruler.u → column < ruler.nu
    → mark ruler (row * ruler.nu + column) ≡ after_steps stride column
mark_steps ruler stride row column start step h =
    let e = mark_at ruler row column h in
    let z = zero-*ℤ ruler.u in
    let s = ap (λ z. pos column *ℤ z) step in
    omega (arith, ints, e, z, s, start)

pub row_none : (interval : Interval) (ruler : Ruler) (stride : Stride) (row from end : ℕ)
    → stride.start ≡ (pos 0 *ℤ ruler.u) +ℤ (pos row *ℤ ruler.v) → stride.step ≡ ruler.u → end ≤ ruler.nu
    → HasNoneBetween interval (after_steps stride) from end → HasNoneBetween interval (mark ruler) (row * ruler.nu + from) (row * ruler.nu + end)
row_none interval ruler stride row from end start step few none = λ k after before between.
    let column : ℕ = k - row * ruler.nu in
    let is : row * ruler.nu + column ≡ k = omega arith in
    let here = mark_steps ruler stride row column start step (omega arith) in
    none column (omega arith) (omega arith) (subst (IsBetween interval.low interval.high) (ap (mark ruler) (sym is) ∙ here) between)

pub row_found : (interval : Interval) (ruler : Ruler) (stride : Stride) (row from column : ℕ)
    → stride.start ≡ (pos 0 *ℤ ruler.u) +ℤ (pos row *ℤ ruler.v) → stride.step ≡ ruler.u
    → IsFirstBetween interval (after_steps stride) from ruler.nu column
    → IsFirstBetween interval (mark ruler) (row * ruler.nu + from) ((row + 1) * ruler.nu) (row * ruler.nu + column)
row_found interval ruler stride row from column start step found =
    let a = found.after in
    let b = found.before in
    let long : (row + 1) * ruler.nu ≡ row * ruler.nu + ruler.nu = omega arith in
    record {
      after = omega arith;
      before = omega arith;
      inside = subst (IsBetween interval.low interval.high) (sym (mark_steps ruler stride row column start step b)) found.inside;
      none = row_none interval ruler stride row from column start step (omega arith) found.none;
    }

-- ---- rows whose places are all alike

alike : (ruler : Ruler) (stride : Stride) (k : ℕ) → ruler.u ≡ pos 0 → stride.start ≡ pos 0 → stride.step ≡ ruler.v
    → mark ruler k ≡ after_steps stride (k / ruler.nu)
alike ruler stride k none start step =
    let z = ap (λ z. pos (k % ruler.nu) *ℤ z) none ∙ *ℤ-zero (pos (k % ruler.nu)) in
    let s = ap (λ z. pos (k / ruler.nu) *ℤ z) step in
    omega (arith, ints, z, s, start)

rows_order : (n from k : ℕ) → 1 ≤ n → from ≤ k → from / n ≤ k / n
rows_order n from k some h = let d = div-lt_iff_lt-mul {k = n} {x = from} {y = k / n + 1} (omega arith) in
    let e = div-lt_iff_lt-mul {k = n} {x = k} {y = k / n + 1} (omega arith) in
    let f = e.0 (omega arith) in
    let g = d.1 (omega (arith, f, h)) in
    omega (arith, g)

pub alike_none : (interval : Interval) (ruler : Ruler) (stride : Stride) (from : ℕ) → 1 ≤ ruler.nu → ruler.u ≡ pos 0
    → stride.start ≡ pos 0 → stride.step ≡ ruler.v
    → HasNoneBetween interval (after_steps stride) (from / ruler.nu) ruler.nv → HasNoneBetween interval (mark ruler) from (ruler.nu * ruler.nv)
alike_none interval ruler stride from some none start step empty = λ k after before between.
    empty (k / ruler.nu) (rows_order ruler.nu from k some after) (row_inside ruler.nu ruler.nv k some before)
    (subst (IsBetween interval.low interval.high) (alike ruler stride k none start step) between)

pub alike_there : (interval : Interval) (ruler : Ruler) (stride : Stride) (from row : ℕ) → 1 ≤ ruler.nu
    → ruler.u ≡ pos 0 → stride.start ≡ pos 0 → stride.step ≡ ruler.v → (row ≡ from / ruler.nu → ⊥)
    → IsFirstBetween interval (after_steps stride) (from / ruler.nu) ruler.nv row
    → IsFirstBetween interval (mark ruler) from (ruler.nu * ruler.nv) (row * ruler.nu)
alike_there interval ruler stride from row some none start step other found =
    let a = found.after in
    let b = found.before in
    let later : from / ruler.nu < row = by_order (from / ruler.nu) row a (λ e. other (sym e)) in
    let reach : (row + 1) * ruler.nu ≤ ruler.nv * ruler.nu = mul-le-mul (omega arith) (omega arith) in
    let same = div-mul-add row ruler.nu 0 (omega arith) in
    let here : (row * ruler.nu) / ruler.nu ≡ row = ap (λ n. n / ruler.nu) (let e : row * ruler.nu ≡ row * ruler.nu + 0 = omega arith in e) ∙ same in
    let ahead = (div-lt_iff_lt-mul {k = ruler.nu} {x = from} {y = row} (omega arith)).0 later in
    record {
      after = omega (arith, ahead);
      before = omega (arith, reach, some);
      inside = subst (IsBetween interval.low interval.high)
          (sym (alike ruler stride (row * ruler.nu) none start step ∙ ap (after_steps stride) here)) found.inside;
      none = λ k after before between.
          found.none (k / ruler.nu) (rows_order ruler.nu from k some after) ((div-lt_iff_lt-mul {k = ruler.nu} {x = k} {y = row} (omega arith)).1 before)
          (subst (IsBetween interval.low interval.high) (alike ruler stride k none start step) between);
    }
  where
    split : {x y : ℕ} → (x ≡ y) ⊎ (x < y) → (x ≡ y → ⊥) → x < y
    split (inl e) other = absurd (other e)
    split (inr h) other = h

    by_order : (x y : ℕ) → x ≤ y → (x ≡ y → ⊥) → x < y
    by_order x y h other = split (eq-or-lt_of_le h) other

-- ---- the interval within reach

pub near_same : (low high near_low near_high z : ℤ) → near_low ≡ int_min (int_max low (neg_ℤ (pos (2 ^ 45))))
    (pos (2 ^ 45)) → near_high ≡ int_min (int_max high (neg_ℤ (pos (2 ^ 45)))) (pos (2 ^ 45)) → IsWithinReach z
    → IsBetween near_low near_high z ↔ IsBetween low high z
near_same low high near_low near_high z el eh reach =
    let a = reach.low in
    let b = reach.high in (
      λ h. (let p = h.above in let q = h.below in
          record {
            above = omega (arith, ints, clamps, el, eh, a, b, p, q);
            below = omega
                (arith, ints, clamps, el, eh, a, b, p, q);
          }),
      λ h. (let p = h.above in let q = h.below in
          record {
            above = omega (arith, ints, clamps, el, eh, a, b, p, q);
            below = omega
                (arith, ints, clamps, el, eh, a, b, p, q);
          }),
    )

-- ---- what the code computes

abs_is : (z : ℤ) → pos 0 ≤ℤ z → z ≡ pos (unsigned_abs z)
abs_is (pos n) h = refl
abs_is (negsuc n) h = absurd (omega (arith, ints, h))

abs_some : (z : ℤ) → pos 1 ≤ℤ z → 1 ≤ unsigned_abs z
abs_some z h = let e = abs_is z (omega (arith, ints, h)) in omega (arith, ints, e, h)

pub steps_by : (length pace : ℤ) (n : ℕ) → pos 0 ≤ℤ length → pos 1 ≤ℤ pace → (length ≤ℤ (pos n *ℤ pace))
    ↔ ((unsigned_abs length + (unsigned_abs pace - 1)) / unsigned_abs pace ≤ n)
steps_by length pace n h some = steps_exact length pace (unsigned_abs length) (unsigned_abs pace) n (abs_is length h)
    (abs_is pace (omega (arith, ints, some))) (abs_some pace some)

pub near_fits : (z : ℤ) → IsNearby z → FitsSigned w64 z
near_fits z h = fits_signed_from_abs w64 z (let a = h.low in let b = h.high in small_abs z a b)
  where
    small_abs : (z : ℤ) → neg_ℤ (pos (2 ^ 45)) ≤ℤ z → z ≤ℤ pos (2 ^ 45) → unsigned_abs z < 2 ^ 63
    small_abs (pos n) a b = omega (arith, ints, b)
    small_abs (negsuc n) a b = omega (arith, ints, a)

pub reach_fits : (z : ℤ) → IsWithinReach z → FitsSigned w64 z
reach_fits z h = near_fits z (let a = h.low in let b = h.high in record { low = omega (arith, ints, a); high = omega (arith, ints, b) })

-- ---- the code's searches

pub entered : (interval : Interval) (f : ℕ → ℤ) (from entry count n : ℕ) → from ≤ n → (from < n → n ≤ entry)
    → n < count → ((k : ℕ) → k < entry → ¬ IsBetween interval.low interval.high (f k))
    → IsBetween interval.low interval.high (f n) → IsFirstBetween interval f from count n
entered interval f from entry count n a least inside early here = record {
  after = a;
  before = inside;
  inside = here;
  none = λ k after before between. early k (let h = least (omega arith) in omega arith) between;
}

pub missed : (interval : Interval) (f : ℕ → ℤ) (from entry count n : ℕ) → (from < n → n ≤ entry)
    → ((k : ℕ) → k < entry → ¬ IsBetween interval.low interval.high (f k))
    → ((m : ℕ) → n ≤ m → m < count → ¬ IsBetween interval.low interval.high (f m)) → HasNoneBetween interval f from count
missed interval f from entry count n least early later = λ k after before between. which k (cases_lt k n) after before between
  where
    which : (k : ℕ) → (k < n) ⊎ (n ≤ k) → from ≤ k → k < count → ¬ IsBetween interval.low interval.high (f k)
    which k (inl h) after before between = early k (let g = least (omega arith) in omega arith) between
    which k (inr h) after before between = later k h before between

pub row_stride : (ruler : Ruler) (stride : Stride) (row : ℕ) → IsRuler ruler → row < ruler.nv
    → stride.start ≡ (pos 0 *ℤ ruler.u) +ℤ (pos row *ℤ ruler.v) → stride.step ≡ ruler.u → IsStride stride ruler.nu
row_stride ruler stride row r inside start step =
    let z = zero-*ℤ ruler.u in
    let some = r.some_columns in
    let first = r.reach 0 row (omega arith) inside in
    record {
      start = (let a = first.low in let b = first.high in record { low = omega (arith, ints, a, start); high = omega (arith, ints, b, start) });
      step = subst IsNearby (sym step) r.u;
      few = r.few_columns;
      reach = λ n h. subst IsWithinReach (let s = ap (λ z. pos n *ℤ z) step in omega (arith, ints, z, s, start)) (r.reach n row h inside);
    }

pub rows_stride : (ruler : Ruler) (stride : Stride) → IsRuler ruler → stride.start ≡ pos 0 → stride.step ≡ ruler.v → IsStride stride ruler.nv
rows_stride ruler stride r start step =
    let z = zero-*ℤ ruler.u in
    let some = r.some_columns in
    record {
      start = record { low = omega (arith, ints, start); high = omega (arith, ints, start) };
      step = subst IsNearby (sym step) r.v;
      few = r.few_rows;
      reach = λ n h. subst IsWithinReach (let s = ap (λ z. pos n *ℤ z) step in omega (arith, ints, z, s, start)) (r.reach 0 n (omega arith) h);
    }

mark_reach : (ruler : Ruler) → IsRuler ruler → (k : ℕ) → k < ruler.nu * ruler.nv → IsWithinReach (mark ruler k)
mark_reach ruler r k h = r.reach (k % ruler.nu) (k / ruler.nu) (column_inside ruler.nu k r.some_columns) (row_inside ruler.nu ruler.nv k r.some_columns h)

-- the interval and the one within reach
pub none_near : (interval near : Interval) (ruler : Ruler) (from : ℕ)
    → near.low ≡ int_min (int_max interval.low (neg_ℤ (pos (2 ^ 45)))) (pos (2 ^ 45))
    → near.high ≡ int_min (int_max interval.high (neg_ℤ (pos (2 ^ 45)))) (pos (2 ^ 45)) → IsRuler ruler
    → (end : ℕ) → end ≤ ruler.nu * ruler.nv → HasNoneBetween near (mark ruler) from end → HasNoneBetween interval (mark ruler) from end
none_near interval near ruler from el eh r end few none = λ k after before between.
    none k after before ((near_same interval.low interval.high near.low near.high (mark ruler k) el eh (mark_reach ruler r k (omega arith))).1 between)

pub finds_near : (interval near : Interval) (ruler : Ruler) (from : ℕ) (found : Option ℕ)
    → near.low ≡ int_min (int_max interval.low (neg_ℤ (pos (2 ^ 45)))) (pos (2 ^ 45))
    → near.high ≡ int_min (int_max interval.high (neg_ℤ (pos (2 ^ 45)))) (pos (2 ^ 45)) → IsRuler ruler
    → Finds near (mark ruler) from (ruler.nu * ruler.nv) found → Finds interval (mark ruler) from (ruler.nu * ruler.nv) found
finds_near interval near ruler from None el eh r found = none_near interval near ruler from el eh r (ruler.nu * ruler.nv) (omega arith) found
finds_near interval near ruler from (Some k) el eh r found =
    let b = found.before in
    record {
      after = found.after;
      before = b;
      inside = (near_same interval.low interval.high near.low near.high (mark ruler k) el eh (mark_reach ruler r k b)).0 found.inside;
      none = none_near interval near ruler from el eh r k (omega arith) found.none;
    }

-- from a place in its row on
pub near_found : (interval : Interval) (ruler : Ruler) (from place : ℕ) → 1 ≤ ruler.nu → from < ruler.nu * ruler.nv
    → IsFirstBetween interval (mark ruler) (from / ruler.nu * ruler.nu + from % ruler.nu)
    ((from / ruler.nu + 1) * ruler.nu) place → IsFirstBetween interval (mark ruler) from (ruler.nu * ruler.nv) place
near_found interval ruler from place some inside found =
    let row = row_inside ruler.nu ruler.nv from some inside in
    let rows : (from / ruler.nu + 1) * ruler.nu ≤ ruler.nv * ruler.nu = mul-le-mul (omega arith) (omega arith) in
    found_sooner interval (mark ruler) from ((from / ruler.nu + 1) * ruler.nu) (ruler.nu * ruler.nv) place (omega (arith, rows))
    (subst (λ n. IsFirstBetween interval (mark ruler) n ((from / ruler.nu + 1) * ruler.nu) place) (div-add-mod' from ruler.nu) found)

pub near_finds : (interval : Interval) (ruler : Ruler) (from : ℕ) (found : Option ℕ) → 1 ≤ ruler.nu
    → HasNoneBetween interval (mark ruler) (from / ruler.nu * ruler.nu + from % ruler.nu) ((from / ruler.nu + 1) * ruler.nu)
    → Finds interval (mark ruler) ((from / ruler.nu + 1) * ruler.nu) (ruler.nu * ruler.nv) found → Finds interval (mark ruler) from (ruler.nu * ruler.nv) found
near_finds interval ruler from found some none later =
    let column = mod-lt from {m = ruler.nu} (omega arith) in
    let whole = div-add-mod' from ruler.nu in
    found_behind interval (mark ruler) from ((from / ruler.nu + 1) * ruler.nu) (ruler.nu * ruler.nv) found (omega (arith, column, whole))
    (subst (λ n. HasNoneBetween interval (mark ruler) n ((from / ruler.nu + 1) * ruler.nu)) whole none) later
