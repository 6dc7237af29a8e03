-- Lists of shots that are looked through: the first shot past the reach, and the rows of all.
use Rattle.std.proofs.Common.{◌≡◌, Bool, true, false, IsTrue, ℕ, ℤ, pos, ◌+◌, ◌<◌, ◌≤◌, ◌-ℤ◌, ◌≤ℤ◌, Some, None, sym, ap}
use Rattle.std.proofs.Common.{subst, ◌∙◌, List, length, slice_get, get_or, All, arith, FitsSigned, w64}
use Rattle.std.proofs.lemmas.Int.{ints, clamps, by_lt_z}
use Rattle.std.proofs.lemmas.Option.{slice_get-get_or, slice_get_cases}
use Rattle.std.proofs.lemmas.List.Elements.{Contains-get_or}
use mathlib.Core.Logic.{inl, inr}
use Rattle.std.specs.Int.{int_min, int_max}
use Rattle.std.specs.List.{Contains}
use Rattle.half_grid.specs.Trapezoids.{Trapezoid, IsShot}
use Rattle.field_split.specs.Fields.{IsInStretch}
use Rattle.field_split.proofs.Numbers.{fits_by}
use Rattle.field_split.specs.Looks.{AreStripesOf}

-- two numbers, by their order
by_order : {P : Type 0} (i k : ℕ) → (i < k → P) → (k < i → P) → (i ≡ k → P) → P
by_order i k f g h =
    by_lt_z (pos i) (pos k)
    (λ lt. f (omega (arith, ints, lt)))
    (λ le. by_lt_z (pos k) (pos i) (λ lt. g (omega (arith, ints, lt))) (λ ge. h (omega (arith, ints, le, ge))))

none_is_none : {z : Trapezoid} → None ≡ Some z → ⊥
none_is_none e = absurd cc

some_same : (y z : Trapezoid) → Some y ≡ Some z → y ≡ z
some_same y z e = cc

-- what holds of the first n shots of a list
abbrev pub HoldsOfFirst : (Trapezoid → Type 0) → List Trapezoid → ℕ → Type 0
HoldsOfFirst P shots n = (i : ℕ) (z : Trapezoid) → i < n → slice_get shots i ≡ Some z → P z

-- and of one more
pub one_more : (P : Trapezoid → Type 0) (shots : List Trapezoid) (k : ℕ) (shot : Trapezoid)
    → slice_get shots k ≡ Some shot → P shot → HoldsOfFirst P shots k → HoldsOfFirst P shots (k + 1)
one_more P shots k shot at holds before i z lt is =
    by_order i k
    (λ below. before i z below is)
    (λ above. absurd (omega (arith, lt, above)))
    (λ e. (let same : Some shot ≡ Some z = sym at ∙ ap (slice_get shots) (sym e) ∙ is in subst P (some_same shot z same) holds))

-- so of all
pub of_all : (P : Trapezoid → Type 0) (shots : List Trapezoid) (n : ℕ) → length shots ≤ n → HoldsOfFirst P shots n → All P shots
of_all P shots n most before k d lt = before k (get_or shots k d) (omega (arith, lt, most)) (slice_get-get_or shots k d lt)

-- a shot of a list is a member of it
pub member_at : (shots : List Trapezoid) (i : ℕ) (z : Trapezoid) → slice_get shots i ≡ Some z → Contains shots z
member_at shots i z at =
    elim (slice_get_cases shots i).1 [
      | inl found ↦ (let same : found.0 ≡ z = some_same found.0 z (sym found.2 ∙ at) in subst (Contains shots)
          (found.3 ∙ same) (Contains-get_or shots i found.0 found.1))
      | inr none ↦ absurd (none_is_none (sym none.1 ∙ at))
    ]

-- a member with a low and one with a high
pub record HasLow (shots : List Trapezoid) (low : ℤ) : Type 0 where
  pub z : Trapezoid
  pub member : Contains shots z
  pub shot : IsShot z
  pub is : z.y0 ≡ low

pub record HasHigh (shots : List Trapezoid) (high : ℤ) : Type 0 where
  pub z : Trapezoid
  pub member : Contains shots z
  pub shot : IsShot z
  pub is : z.y1 ≡ high

-- the rows of the first n shots lie between the two
pub record IsBetween (bottom top : ℤ) (z : Trapezoid) : Type 0 where
  pub low : bottom ≤ℤ z.y0
  pub high : z.y1 ≤ℤ top

pub lower : (shots : List Trapezoid) (low next : ℤ) (shot : Trapezoid) → HasLow shots low → Contains shots shot
    → IsShot shot → next ≡ int_min low shot.y0 → HasLow shots next
lower shots low next shot has member is_shot e =
    by_lt_z low shot.y0
    (λ lt. record { z = has.z; member = has.member; shot = has.shot; is = (let is = has.is in omega (arith, ints, clamps, lt, e, is)) })
    (λ le. record { z = shot; member = member; shot = is_shot; is = omega (arith, ints, clamps, le, e) })

pub higher : (shots : List Trapezoid) (high next : ℤ) (shot : Trapezoid) → HasHigh shots high → Contains shots shot
    → IsShot shot → next ≡ int_max high shot.y1 → HasHigh shots next
higher shots high next shot has member is_shot e =
    by_lt_z shot.y1 high
    (λ lt. record { z = has.z; member = has.member; shot = has.shot; is = (let is = has.is in omega (arith, ints, clamps, lt, e, is)) })
    (λ le. record { z = shot; member = member; shot = is_shot; is = omega (arith, ints, clamps, le, e) })

pub wider : (shots : List Trapezoid) (n : ℕ) (low high next last : ℤ) (shot : Trapezoid)
    → slice_get shots n ≡ Some shot → next ≡ int_min low shot.y0 → last ≡ int_max high shot.y1
    → HoldsOfFirst (IsBetween low high) shots n
    → HoldsOfFirst (IsBetween next last) shots (n + 1)
wider shots n low high next last shot at a b before =
    one_more (IsBetween next last) shots n shot at (record { low = omega (arith, ints, clamps, a); high = omega (arith, ints, clamps, b) })
    (λ i z lt is. (let one = before i z lt is in let x = one.low in let y = one.high in
    record { low = omega (arith, ints, clamps, a, x); high = omega (arith, ints, clamps, b, y) }))

-- the stripes of the lowest and of the highest row are those that the shots meet
pub stripes_are : (size low high first last : ℤ) (shots : List Trapezoid) → HasLow shots low → HasHigh shots high
    → All (IsBetween low high) shots → IsInStretch size first low → IsInStretch size last (high -ℤ pos 1)
    → AreStripesOf size shots first last
stripes_are size low high first last shots has_low has_high between p q =
    let least = has_low.z in
    let greatest = has_high.z in
    record {
      least = (
        least,
        has_low.member,
        record {
          row = low;
          above_bottom = (let is = has_low.is in omega (arith, ints, is));
          below_top =
              (let is = has_low.is in let rows = has_low.shot.legal.has_rows in omega (arith, ints, is, rows));
          stripe =
              p;
        },
      );
      greatest = (
        greatest,
        has_high.member,
        record {
          row = high -ℤ pos 1;
          above_bottom =
              (let is = has_high.is in let rows = has_high.shot.legal.has_rows in omega (arith, ints, is, rows));
          below_top = (let is = has_high.is in omega (arith, ints, is));
          stripe = q;
        },
      );
      within = λ i d lt. (let one = between i d lt in let x = one.low in let y = one.high in
          record { low = omega (arith, ints, x, p.from); high = omega (arith, ints, y, q.below) });
    }

pub high_fits : (shots : List Trapezoid) (high : ℤ) → HasHigh shots high → FitsSigned w64 (high -ℤ pos 1)
high_fits shots high h =
    let reach = h.shot.reach.y1 in
    let is = h.is in
    fits_by (high -ℤ pos 1) (omega (arith, ints, is, reach.low)) (omega (arith, ints, is, reach.high))

pub no_and_yes : (b : Bool) → b ≡ false → IsTrue b → ⊥
no_and_yes true e h = absurd cc
no_and_yes false e h = absurd cc
