-- Steps of arrays.
use Rattle.std.proofs.Common.{◌≡◌, ℕ, zero, suc, ◌+◌, ◌*◌, ◌/◌, ◌%◌, ◌^◌, ◌<◌, ◌≤◌, Bool, true, false, cond, length, get_or, refl, sym, ap, subst, ◌∙◌, arith}
use Rattle.std.specs.Prelude.{ℤ, pos, negsuc, neg_ℤ, ◌+ℤ◌, ◌-ℤ◌, ◌*ℤ◌, ◌≤ℤ◌, ◌<ℤ◌, ◌≢◌, unsigned_abs, int_lt}
use Rattle.std.specs.List.{range_with_len}
use Rattle.std.proofs.Math.Nat.{mul-div_cancel_left, mul-mod_right, mod-add-div, mul-le-mul_right, div-lt_iff_lt-mul, mod-lt}
use Rattle.std.proofs.lemmas.List.FromFn.{length-range_with_len, get_or-range_with_len, length-map-range_with_len}
use Rattle.std.proofs.lemmas.List.Elements.{All-map}
use Rattle.half_grid.specs.Reach.{IsWithinReach}
use Rattle.layout_model.specs.Grids.{IsGrid, grid_place, grid_places, nth_place}
use Rattle.layout_model.specs.Layouts.{IsMove, AreOffsets}
use Rattle.gds_reader.specs.Elements.{IsFilePoint}
use Rattle.std.proofs.lemmas.Int.{ints}
use Rattle.half_grid.specs.Halves.{twice, is_even}
use Rattle.half_grid.specs.declared.plane.Point.{Point}
use Rattle.gds_reader.specs.Meaning.{quotient, step_of}
use Rattle.gds_reader.specs.Steppings.{IsNearPlace, IsEvenPart, IsPartOf, IsStepping}
use Rattle.gds_reader.specs.Values.{Divides}

-- an exact division by twice the count
pub even_part : (n c : ℕ) → 1 ≤ c → n % (2 * c) ≡ 0 → IsEvenPart c n (n / (2 * c) * 2)
even_part n c some exact = record {
  sum = omega (arith, mod-add-div n (2 * c), exact);
  half = n / (2 * c);
  even = omega arith;
}

pub no_even_part : (n c : ℕ) → n % (2 * c) ≢ 0 → (size : ℕ) → ¬ IsEvenPart c n size
no_even_part n c inexact size p =
    let whole : n ≡ (2 * c) * p.half = omega (arith, p.sum, ap (λ x. c * x) p.even) in
    inexact (ap (λ x. x % (2 * c)) whole ∙ mul-mod_right (2 * c) p.half)

abs_twice : (h : ℤ) → unsigned_abs (twice h) ≡ 2 * unsigned_abs h
abs_twice (pos n) = omega (arith, ints)
abs_twice (negsuc n) = omega (arith, ints)

abs_times : (c : ℕ) (z : ℤ) → unsigned_abs (pos c *ℤ z) ≡ c * unsigned_abs z
abs_times c (pos n) = omega (arith, ints)
abs_times c (negsuc n) = omega (arith, ints)

-- with the sign of the way
pub part_is : (way : ℤ) (c size : ℕ) (b : Bool) → IsEvenPart c (unsigned_abs way) size → (b ≡ true → way <ℤ pos 0) → (b ≡ false → pos 0 ≤ℤ way)
    → IsPartOf c way (cond b (neg_ℤ (pos size)) (pos size))
part_is (pos n) c size true p below above = absurd (let h : pos n <ℤ pos 0 = below refl in omega (arith, ints))
part_is (pos n) c size false p below above = record { sum = omega (arith, ints, p.sum); half = pos p.half; whole = omega (arith, ints, p.even) }
part_is (negsuc n) c zero true p below above = absurd (omega (arith, ints, p.sum))
part_is (negsuc n) c (suc m) true p below above = record { sum = omega (arith, ints, p.sum); half = neg_ℤ (pos p.half); whole = omega (arith, ints, p.even) }
part_is (negsuc n) c size false p below above = absurd (let h : pos 0 ≤ℤ negsuc n = above refl in omega (arith, ints))

pub no_part : (way : ℤ) (c : ℕ) → ((size : ℕ) → ¬ IsEvenPart c (unsigned_abs way) size) → (step : ℤ) → ¬ IsPartOf c way step
no_part way c none step p = none (unsigned_abs step) (record {
  sum = sym (ap unsigned_abs (sym p.sum) ∙ abs_times c step);
  half = unsigned_abs p.half;
  even = ap unsigned_abs p.whole ∙ abs_twice p.half;
})

-- a part is the quotient
quotient_is : (way step : ℤ) (c : ℕ) → 1 ≤ c → pos c *ℤ step ≡ way → step ≡ quotient way c
quotient_is (pos n) (pos m) c some e =
    let whole : n ≡ c * m = omega (arith, ints) in
    ap pos (sym (ap (λ x. x / c) whole ∙ mul-div_cancel_left m {n = c} (omega arith)))
quotient_is (pos n) (negsuc m) c some e = absurd (omega (arith, ints))
quotient_is (negsuc n) (pos m) c some e = absurd (omega (arith, ints))
quotient_is (negsuc n) (negsuc m) c some e =
    let whole : n + 1 ≡ c * (m + 1) = omega (arith, ints) in
    let size : (n + 1) / c ≡ m + 1 = ap (λ x. x / c) whole ∙ mul-div_cancel_left (m + 1) {n = c} (omega arith) in
    omega (arith, ints, size)

pub step_is : (count : ℕ) (from to step : Point) → IsStepping count from to step → step ≡ step_of count from to
step_is count from to step s =
    let x : step.x ≡ quotient (to.x -ℤ from.x) count = quotient_is (to.x -ℤ from.x) step.x count s.some s.step_is.x in
    let y : step.y ≡ quotient (to.y -ℤ from.y) count = quotient_is (to.y -ℤ from.y) step.y count s.some s.step_is.y in
    ap (λ (v : ℤ). let p : Point = record { x = v; y = step.y } in p) x ∙ ap
    (λ (v : ℤ). let p : Point = record { x = quotient (to.x -ℤ from.x) count; y = v } in p) y

pub stepping : (count : ℕ) (from to step : Point) → 1 ≤ count → IsPartOf count (to.x -ℤ from.x) step.x → IsPartOf count (to.y -ℤ from.y) step.y
    → IsStepping count from to step
stepping count from to step some x y = record {
  some = some;
  step_is = record { x = x.sum; y = y.sum };
  whole = (record { x = x.half; y = y.half }, x.whole, y.whole);
}

pub part_x : (count : ℕ) (from to : Point) → (d : Divides count from to) → IsPartOf count (to.x -ℤ from.x) (d.1.0).x
part_x count from to d = record { sum = d.1.1.x; half = d.1.2.0.x; whole = d.1.2.1 }

pub part_y : (count : ℕ) (from to : Point) → (d : Divides count from to) → IsPartOf count (to.y -ℤ from.y) (d.1.0).y
part_y count from to d = record { sum = d.1.1.y; half = d.1.2.0.y; whole = d.1.2.2 }

-- ---- the places of an array

less_far : (a n : ℕ) (s w : ℤ) → a < n → pos n *ℤ s ≡ w → IsNearPlace w → IsNearPlace (pos a *ℤ s)
less_far a n (pos m) w h e near =
    let le : a * m ≤ n * m = mul-le-mul_right m (omega arith) in
    record { low = omega (arith, ints); high = omega (arith, ints, le, e, near.high) }
less_far a n (negsuc m) w h e near =
    let le : a * (m + 1) ≤ n * (m + 1) = mul-le-mul_right (m + 1) (omega arith) in
    record { low = omega (arith, ints, le, e, near.low); high = omega (arith, ints) }

even_twice : (z : ℤ) → is_even (twice z) ≡ true
even_twice (pos n) = grind (arith, ints)
even_twice (negsuc n) = grind (arith, ints)

times_twice : (a : ℕ) (h : ℤ) → pos a *ℤ twice h ≡ twice (pos a *ℤ h)
times_twice a (pos n) = omega (arith, ints)
times_twice a (negsuc n) = omega (arith, ints)

twice_sum : (x y : ℤ) → twice x +ℤ twice y ≡ twice (x +ℤ y)
twice_sum x y = omega (arith, ints)

even_sum : (a b : ℕ) (s t h g : ℤ) → s ≡ twice h → t ≡ twice g → is_even ((pos a *ℤ s) +ℤ (pos b *ℤ t)) ≡ true
even_sum a b s t h g e f =
    let first : pos a *ℤ s ≡ twice (pos a *ℤ h) = ap (λ x. pos a *ℤ x) e ∙ times_twice a h in
    let second : pos b *ℤ t ≡ twice (pos b *ℤ g) = ap (λ x. pos b *ℤ x) f ∙ times_twice b g in
    ap (λ x. is_even (x +ℤ (pos b *ℤ t))) first ∙ ap (λ x. is_even (twice (pos a *ℤ h) +ℤ x)) second
    ∙ ap is_even (twice_sum (pos a *ℤ h) (pos b *ℤ g)) ∙ even_twice ((pos a *ℤ h) +ℤ (pos b *ℤ g))

way_near : (a b : ℤ) → neg_ℤ (pos (2 ^ 32)) ≤ℤ a → a ≤ℤ pos (2 ^ 32) → neg_ℤ (pos (2 ^ 32)) ≤ℤ b → b ≤ℤ pos (2 ^ 32) → IsNearPlace (b -ℤ a)
way_near a b p q r s = record { low = omega (arith, ints); high = omega (arith, ints) }

-- one place of an array
place_near : (a b columns rows : ℕ) (o r u s t : Point) → IsFilePoint o → IsFilePoint r → IsFilePoint u → IsStepping columns o r s → IsStepping rows o u t
    → a < columns → b < rows → IsNearPlace (pos a *ℤ s.x) × IsNearPlace (pos b *ℤ t.x) × IsNearPlace (pos a *ℤ s.y) × IsNearPlace (pos b *ℤ t.y)
place_near a b columns rows o r u s t fo fr fu ps pt la lb = (
  less_far a columns s.x (r.x -ℤ o.x) la ps.step_is.x (way_near o.x r.x fo.near.x_low fo.near.x_high fr.near.x_low fr.near.x_high),
  less_far b rows t.x (u.x -ℤ o.x) lb pt.step_is.x (way_near o.x u.x fo.near.x_low fo.near.x_high fu.near.x_low fu.near.x_high),
  less_far a columns s.y (r.y -ℤ o.y) la ps.step_is.y (way_near o.y r.y fo.near.y_low fo.near.y_high fr.near.y_low fr.near.y_high),
  less_far b rows t.y (u.y -ℤ o.y) lb pt.step_is.y (way_near o.y u.y fo.near.y_low fo.near.y_high fu.near.y_low fu.near.y_high),
)

sum_reach : (x y : ℤ) → IsNearPlace x → IsNearPlace y → IsWithinReach (x +ℤ y)
sum_reach x y p q = record { low = omega (arith, ints, p.low, q.low); high = omega (arith, ints, p.high, q.high) }

pub grid_fits : (columns rows : ℕ) (o r u s t : Point) → columns ≤ 65535 → rows ≤ 65535 → IsFilePoint o → IsFilePoint r → IsFilePoint u
    → IsStepping columns o r s → IsStepping rows o u t → IsGrid columns rows s t
grid_fits columns rows o r u s t few_columns few_rows fo fr fu ps pt = record {
  some_columns = ps.some;
  few_columns = omega arith;
  some_rows = pt.some;
  few_rows = omega arith;
  reach = λ a b la lb.
      let n = place_near a b columns rows o r u s t fo fr fu ps pt la lb in
      record {
        x = sum_reach (pos a *ℤ s.x) (pos b *ℤ t.x) n.0 n.1;
        y = sum_reach (pos a *ℤ s.y) (pos b *ℤ t.y) n.2 n.3;
      };
}

place_move : (a b columns rows : ℕ) (o r u s t : Point) → IsFilePoint o → IsFilePoint r → IsFilePoint u → IsStepping columns o r s → IsStepping rows o u t
    → a < columns → b < rows → IsMove (grid_place s t a b)
place_move a b columns rows o r u s t fo fr fu ps pt la lb =
    let n = place_near a b columns rows o r u s t fo fr fu ps pt la lb in
    record {
      even_x = even_sum a b s.x t.x (ps.whole.0).x (pt.whole.0).x ps.whole.1 pt.whole.1;
      even_y = even_sum a b s.y t.y (ps.whole.0).y (pt.whole.0).y ps.whole.2 pt.whole.2;
      near = record {
        x_low = omega (arith, ints, n.0.low, n.1.low);
        x_high = omega (arith, ints, n.0.high, n.1.high);
        y_low = omega (arith, ints, n.2.low, n.3.low);
        y_high = omega (arith, ints, n.2.high, n.3.high);
      };
    }

some_cells : (m n : ℕ) → 1 ≤ m → 1 ≤ n → 1 ≤ m * n
some_cells zero n p q = absurd (omega arith)
some_cells (suc m) zero p q = absurd (omega arith)
some_cells (suc m) (suc n) p q = omega arith

pub grid_offsets : (columns rows : ℕ) (o r u s t : Point) → IsFilePoint o → IsFilePoint r → IsFilePoint u
    → IsStepping columns o r s → IsStepping rows o u t → AreOffsets (grid_places columns rows s t)
grid_offsets columns rows o r u s t fo fr fu ps pt =
    let numbers = range_with_len 0 (columns * rows) in
    let some : 1 ≤ columns * rows = some_cells columns rows ps.some pt.some in
    record {
      nonempty = λ e. absurd (
          let none : columns * rows ≡ 0 = sym (length-map-range_with_len (nth_place columns s t) 0 (columns * rows)) ∙ ap length e in omega arith);
      moves = All-map IsMove (nth_place columns s t) numbers (λ k d lt.
          let below : k < columns * rows = subst (λ n. k < n) (length-range_with_len 0 (columns * rows)) lt in
          let number : get_or numbers k d ≡ k = get_or-range_with_len 0 (columns * rows) k d below ∙ omega arith in
          let row : k / columns < rows = (div-lt_iff_lt-mul {k = columns} {x = k} {y = rows} ps.some).1 (omega arith) in
          subst (λ n. IsMove (nth_place columns s t n)) (sym number)
          (place_move (k % columns) (k / columns) columns rows o r u s t fo fr fu ps pt (mod-lt k {m = columns} ps.some) row));
    }

pub below_zero : (z : ℤ) → int_lt z (pos 0) ≡ true → z <ℤ pos 0
below_zero z e = grind (arith, ints)

pub not_below_zero : (z : ℤ) → int_lt z (pos 0) ≡ false → pos 0 ≤ℤ z
not_below_zero z e = grind (arith, ints)
