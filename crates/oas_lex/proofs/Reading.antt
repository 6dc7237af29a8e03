-- What the groups read so far make, and what follows once a number ends, the bytes end or it is too wide.
use Rattle.std.proofs.Common.{◌≡◌, ◌≢◌, ℕ, zero, suc, ◌+◌, ◌-◌, ◌*◌, ◌%◌, ◌^◌, ◌<◌, ◌≤◌, List, [], ◌∷◌, ◌++◌, length}
use Rattle.std.proofs.Common.{take, drop, get_or, min, refl, arith, inl, inr, ap, sym, ◌∙◌, add-one, length-drop, ℤ}
use Rattle.std.proofs.lemmas.List.{length-take-le, take_more}
use Rattle.std.proofs.Math.Nat.{mul-le-mul_left}
use Rattle.std.proofs.Math.Seq.{take-length}
use Rattle.oas_lex.specs.Numbers.{GoesOn, IsWholeNumber, value_of, HasUnsigned, HasSigned, EndsFirst, IsWide}
use Rattle.oas_lex.proofs.Wholes.{whole_not_on, value_take-le, whole_reaches, whole_some, one_whole}

-- what the group after so many weighs
abbrev pub weight_of : ℕ → ℕ
weight_of zero = 1
weight_of (suc k) = 128 * weight_of k

weight_some : (k : ℕ) → 0 < weight_of k
weight_some zero = omega arith
weight_some (suc k) = omega (arith, weight_some k)

-- a weight of less than 2^63 is at most 2^56
small_weight : (k : ℕ) → weight_of k < 2 ^ 63 → weight_of k ≤ 2 ^ 56
small_weight zero h = omega arith
small_weight (suc zero) h = omega arith
small_weight (suc (suc zero)) h = omega arith
small_weight (suc (suc (suc zero))) h = omega arith
small_weight (suc (suc (suc (suc zero)))) h = omega arith
small_weight (suc (suc (suc (suc (suc zero))))) h = omega arith
small_weight (suc (suc (suc (suc (suc (suc zero)))))) h = omega arith
small_weight (suc (suc (suc (suc (suc (suc (suc zero))))))) h = omega arith
small_weight (suc (suc (suc (suc (suc (suc (suc (suc zero)))))))) h = omega arith
small_weight (suc (suc (suc (suc (suc (suc (suc (suc (suc k))))))))) h = absurd (omega (arith, weight_some k))

value_append : (xs : List ℕ) (b : ℕ) → value_of (xs ++ b ∷ []) ≡ value_of xs + weight_of (length xs) * (b % 128)
value_append [] b = omega arith
value_append (x ∷ xs) b = omega (arith, value_append xs b)

on_append : (xs : List ℕ) (b : ℕ) → GoesOn xs → 128 ≤ b → GoesOn (xs ++ b ∷ [])
on_append [] b g h = (h, tt)
on_append (x ∷ xs) b g h = (g.0, on_append xs b g.1 h)

whole_append : (xs : List ℕ) (b : ℕ) → GoesOn xs → b < 128 → IsWholeNumber (xs ++ b ∷ [])
whole_append [] b g h = inl (h, refl)
whole_append (x ∷ xs) b g h = inr (g.0, whole_append xs b g.1 h)

value_more : (xs : List ℕ) (k : ℕ) → k < length xs → value_of (take (k + 1) xs) ≡ value_of (take k xs) + weight_of k * (get_or xs k 0 % 128)
value_more xs k h =
    let size : length (take k xs) ≡ k = length-take-le k xs (omega arith) in
    ap value_of (take_more xs k 0 h) ∙ (value_append (take k xs) (get_or xs k 0) ∙ ap (λ n. value_of (take k xs) + weight_of n * (get_or xs k 0 % 128)) size)

pub on_more : (xs : List ℕ) (k : ℕ) → k < length xs → GoesOn (take k xs) → 128 ≤ get_or xs k 0 → GoesOn (take (k + 1) xs)
on_more xs k h g b = rw (take_more xs k 0 h) (on_append (take k xs) (get_or xs k 0) g b)

pub whole_more : (xs : List ℕ) (k : ℕ) → k < length xs → GoesOn (take k xs) → get_or xs k 0 < 128 → IsWholeNumber (take (k + 1) xs)
whole_more xs k h g b = rw (take_more xs k 0 h) (whole_append (take k xs) (get_or xs k 0) g b)

-- the number that the first groups make, and what the next one weighs, 2^63 where it is at least that
pub record Summed (rest : List ℕ) (count sum next : ℕ) : Type 0 where
  pub value : sum ≡ value_of (take count rest)
  pub weight : next ≡ min (weight_of count) (2 ^ 63)
  pub below : sum < next

pub sum_none : (rest : List ℕ) → Summed rest 0 0 1
sum_none rest = record { value = refl; weight = omega arith; below = omega arith }

-- a zero group changes nothing where the weight is full
pub sum_full : (rest : List ℕ) (k v w : ℕ) → Summed rest k v w → k < length rest → w ≡ 2 ^ 63 → get_or rest k 0 % 128 ≡ 0 → Summed rest (k + 1) v w
sum_full rest k v w s h full none =
    let product : weight_of k * (get_or rest k 0 % 128) ≡ 0 = rw none (omega arith) in
    record { value = omega (arith, value_more rest k h, s.value); weight = rw add-one (omega (arith, s.weight)); below = s.below }

-- any other weight is that of the group
pub sum_small : (rest : List ℕ) (k v w : ℕ) → Summed rest k v w → w ≢ 2 ^ 63 → (w ≡ weight_of k) × (w ≤ 2 ^ 56)
sum_small rest k v w s other =
    let below : weight_of k < 2 ^ 63 = omega (arith, s.weight) in
    (omega (arith, s.weight), omega (arith, s.weight, small_weight k below))

-- a sum with one more group stays below the next weight
pub sum_below : (rest : List ℕ) (k v w g : ℕ) → Summed rest k v w → w ≢ 2 ^ 63 → g < 128 → (v + g * w < 128 * w) × (128 * w ≤ 2 ^ 63)
sum_below rest k v w g s other h =
    let small : (w ≡ weight_of k) × (w ≤ 2 ^ 56) = sum_small rest k v w s other in
    let most : w * g ≤ w * 127 = mul-le-mul_left w (omega arith) in
    (omega (arith, s.below), omega arith)

pub sum_more : (rest : List ℕ) (k v w : ℕ) → Summed rest k v w → k < length rest → w ≢ 2 ^ 63 → Summed rest (k + 1) (v + get_or rest k 0 % 128 * w) (w * 128)
sum_more rest k v w s h other =
    let small : (w ≡ weight_of k) × (w ≤ 2 ^ 56) = sum_small rest k v w s other in
    let product : get_or rest k 0 % 128 * w ≡ weight_of k * (get_or rest k 0 % 128) = rw (small.0) (omega arith) in
    record {
      value = omega (arith, value_more rest k h, s.value, product);
      weight = rw add-one (omega (arith, small.0, small.1));
      below = omega (arith, (sum_below rest k v w (get_or rest k 0 % 128) s other (omega arith)).0);
    }

-- a group that isn't zero is too much where the weight is full
pub sum_wide : (rest : List ℕ) (k v w : ℕ) → Summed rest k v w → k < length rest → w ≡ 2 ^ 63
    → get_or rest k 0 % 128 ≢ 0 → 2 ^ 63 ≤ value_of (take (k + 1) rest)
sum_wide rest k v w s h full some =
    let product : weight_of k * 1 ≤ weight_of k * (get_or rest k 0 % 128) = mul-le-mul_left (weight_of k) (omega arith) in
    omega (arith, value_more rest k h, s.weight, product)

-- ---- the three outcomes exclude each other

pub ends_not_has : (bytes : List ℕ) (at n next : ℕ) → EndsFirst bytes at → HasUnsigned bytes at n next → ⊥
ends_not_has bytes at n next e h = whole_not_on (drop at bytes) (next - at) h.spells.whole e.goes_on

pub ends_not_wide : (bytes : List ℕ) (at : ℕ) → EndsFirst bytes at → IsWide bytes at → ⊥
ends_not_wide bytes at e w = omega (arith, e.narrow, w.1.wide, value_take-le (drop at bytes) (w.0 + 1))

pub has_not_wide : (bytes : List ℕ) (at n next : ℕ) → HasUnsigned bytes at n next → IsWide bytes at → ⊥
has_not_wide bytes at n next h w =
    let reach : value_of (take (suc w.0) (drop at bytes)) ≤ value_of (take (next - at) (drop at bytes)) = whole_reaches
    (drop at bytes) (next - at) w.0 h.spells.whole w.1.goes_on in
    let wide : 2 ^ 63 ≤ value_of (take (suc w.0) (drop at bytes)) = rw add-one at w.1.wide in
    omega (arith, h.spells.value, h.narrow)

pub has_one : (bytes : List ℕ) (at n next m last : ℕ) → HasUnsigned bytes at n next → HasUnsigned bytes at m last → (n ≡ m) × (next ≡ last)
has_one bytes at n next m last h g =
    let size : length (drop at bytes) ≡ length bytes - at = length-drop at bytes in
    let same : next - at ≡ last - at = one_whole (drop at bytes) (next - at) (last - at) (omega (arith, h.within))
    (omega (arith, g.within)) h.spells.whole g.spells.whole in
    let value : value_of (take (next - at) (drop at bytes)) ≡ value_of (take (last - at) (drop at bytes)) = ap
    (λ k. value_of (take k (drop at bytes))) same in (
      sym h.spells.value ∙ (value ∙ g.spells.value),
      omega (arith, whole_some (drop at bytes) (next - at) h.spells.whole, whole_some (drop at bytes) (last - at) g.spells.whole),
    )

-- ---- what the groups read so far say of the bytes

pub rest_is : (bytes : List ℕ) (at : ℕ) → take (length bytes - at) (drop at bytes) ≡ drop at bytes
rest_is bytes at = ap (λ n. take n (drop at bytes)) (sym (length-drop at bytes)) ∙ take-length (drop at bytes)

pub is_wide : (bytes : List ℕ) (at k v w : ℕ) → Summed (drop at bytes) k v w → GoesOn (take k (drop at bytes))
    → k < length (drop at bytes) → w ≡ 2 ^ 63 → get_or (drop at bytes) k 0 % 128 ≢ 0 → IsWide bytes at
is_wide bytes at k v w s g h full some =
    (k, record { within = omega (arith, length-drop at bytes); goes_on = g; wide = sum_wide (drop at bytes) k v w s h full some })

pub ends_first : (bytes : List ℕ) (at k v w : ℕ) → Summed (drop at bytes) k v w → GoesOn (take k (drop at bytes))
    → length (drop at bytes) ≤ k → k ≤ length (drop at bytes) → EndsFirst bytes at
ends_first bytes at k v w s g low high =
    let whole : take k (drop at bytes) ≡ drop at bytes = ap (λ n. take n (drop at bytes)) (omega arith) ∙ take-length (drop at bytes) in
    let value : value_of (take k (drop at bytes)) ≡ value_of (drop at bytes) = ap value_of whole in
    record { goes_on = rw whole at g; narrow = omega (arith, s.value, s.weight, s.below) }

pub has_unsigned : (bytes : List ℕ) (at k v w : ℕ) → Summed (drop at bytes) (k + 1) v w
    → GoesOn (take k (drop at bytes)) → k < length (drop at bytes) → get_or (drop at bytes) k 0 < 128
    → HasUnsigned bytes at v (at + k + 1)
has_unsigned bytes at k v w s g h last =
    let count : at + k + 1 - at ≡ k + 1 = omega arith in
    record {
      within = omega (arith, length-drop at bytes);
      spells = rw count (record { whole = whole_more (drop at bytes) k h g last; value = sym s.value });
      narrow = omega (arith, s.weight, s.below);
    }

-- the same, for a group by its name

pub wide_by : (bytes : List ℕ) (at k v w g : ℕ) → Summed (drop at bytes) k v w → GoesOn (take k (drop at bytes))
    → k < length (drop at bytes) → g ≡ get_or (drop at bytes) k 0 % 128 → w ≡ 2 ^ 63 → g ≢ 0 → IsWide bytes at
wide_by bytes at k v w g s on h group full some = is_wide bytes at k v w s on h full (λ none. some (group ∙ none))

pub full_by : (rest : List ℕ) (k v w g : ℕ) → Summed rest k v w → k < length rest → g ≡ get_or rest k 0 % 128 → w ≡ 2 ^ 63 → g ≡ 0 → Summed rest (k + 1) v w
full_by rest k v w g s h group full none = sum_full rest k v w s h full (sym group ∙ none)

pub more_by : (rest : List ℕ) (k v w g : ℕ) → Summed rest k v w → k < length rest → g ≡ get_or rest k 0 % 128
    → w ≢ 2 ^ 63 → Summed rest (k + 1) (v + g * w) (w * 128)
more_by rest k v w g s h group other = rw group (sum_more rest k v w s h other)

-- a signed number stands where the unsigned number of the same bytes does
pub unsigned_of_signed : (bytes : List ℕ) (at : ℕ) (z : ℤ) (next : ℕ) → HasSigned bytes at z next
    → HasUnsigned bytes at (value_of (take (next - at) (drop at bytes))) next
unsigned_of_signed bytes at z next h = record { within = h.within; spells = record { whole = h.spells.whole; value = refl }; narrow = h.narrow }
