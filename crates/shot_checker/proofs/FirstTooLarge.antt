-- The first shot that is too large, and that all fit where there is none.
use Rattle.std.proofs.Common.{◌≡◌, ℕ, pos, ◌+◌, ◌<◌, ◌≤◌, Some, sym, ap, subst, ◌∙◌, List, length, slice_get, get_or, All, arith}
use Rattle.std.proofs.lemmas.Int.{ints, by_lt_z}
use Rattle.std.proofs.lemmas.Option.{slice_get-get_or}
use Rattle.half_grid.specs.Trapezoids.{Trapezoid}
use Rattle.half_grid.specs.declared.shot.Limits.{Limits}
use Rattle.shot_checker.specs.Verdicts.{Fits}

-- two numbers, by their order
by_order : {P : Type 0} (i k : ℕ) → (i < k → P) → (k < i → P) → (i ≡ k → P) → P
by_order i k f g h =
    by_lt_z (pos i) (pos k)
    (λ lt. f (omega (arith, ints, lt)))
    (λ le. by_lt_z (pos k) (pos i) (λ lt. g (omega (arith, ints, lt))) (λ ge. h (omega (arith, ints, le, ge))))

some_same : (y z : Trapezoid) → Some y ≡ Some z → y ≡ z
some_same y z e = cc

-- shots that fit, and one more
pub fit_one_more : (limits : Limits) (shots : List Trapezoid) (k : ℕ) (shot : Trapezoid) → slice_get shots k ≡ Some shot → Fits limits shot
    → ((i : ℕ) (z : Trapezoid) → i < k → slice_get shots i ≡ Some z → Fits limits z) → (i : ℕ) (z : Trapezoid)
    → i < k + 1 → slice_get shots i ≡ Some z → Fits limits z
fit_one_more limits shots k shot at fits before i z lt is =
    by_order i k
    (λ below. before i z below is)
    (λ above. absurd (omega (arith, lt, above)))
    (λ e. (let same : Some shot ≡ Some z = sym at ∙ ap (slice_get shots) (sym e) ∙ is in subst (Fits limits) (some_same shot z same) fits))

-- so all fit
pub all_fit : (limits : Limits) (shots : List Trapezoid) (n : ℕ) → length shots ≤ n
    → ((i : ℕ) (z : Trapezoid) → i < n → slice_get shots i ≡ Some z → Fits limits z) → All (Fits limits) shots
all_fit limits shots n most before k d lt = before k (get_or shots k d) (omega (arith, lt, most)) (slice_get-get_or shots k d lt)
