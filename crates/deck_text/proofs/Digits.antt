-- Digits, and how large the number is that they say.
use Rattle.std.proofs.Common.{◌≡◌, ℕ, ◌+◌, ◌-◌, ◌*◌, ◌^◌, ◌<◌, ◌≤◌, Bool, true, false, ◌&&◌, leb, List, length, get_or, take, refl, arith, add-one}
use Rattle.std.specs.List.{list_all}
use Rattle.std.specs.Char.{is_ascii_digit}
use Rattle.std.proofs.lemmas.Bool.{false≢true}
use Rattle.std.proofs.lemmas.Bool.Decides.{nat_tests}
use Rattle.std.proofs.lemmas.List.Sums.{AllPass-from_list_all, fold_more}
use Rattle.std.proofs.Math.Nat.{pow-le-pow_right, pow-suc}
use Rattle.deck_text.specs.Kinds.{are_digits, decimal_value}

pub both : (a b : Bool) → (a && b) ≡ true → (a ≡ true) × (b ≡ true)
both true b e = (refl, e)
both false b e = absurd (false≢true e)

pub few : (digits : List ℕ) → are_digits digits ≡ true → length digits ≤ 18
unfolding are_digits
few digits e =
    let a = both (leb 1 (length digits)) (leb (length digits) 18 && list_all is_ascii_digit digits) e in
    let b = both (leb (length digits) 18) (list_all is_ascii_digit digits) a.1 in
    grind (arith, nat_tests, b.0)

pub digit_at : (digits : List ℕ) (i : ℕ) → are_digits digits ≡ true → i < length digits → (48 ≤ get_or digits i 0) × (get_or digits i 0 ≤ 57)
unfolding are_digits
digit_at digits i e lt =
    let a = both (leb 1 (length digits)) (leb (length digits) 18 && list_all is_ascii_digit digits) e in
    let b = both (leb (length digits) 18) (list_all is_ascii_digit digits) a.1 in
    let digit : is_ascii_digit (get_or digits i 0) ≡ true = AllPass-from_list_all is_ascii_digit digits b.1 i 0 lt in
    (grind (arith, nat_tests), grind (arith, nat_tests))

-- one more digit fits
pub room : (i n : ℕ) → i < 18 → n < 10 ^ i → n < 10 ^ 17
room i n lt small = omega (arith, pow-le-pow_right {n = 10} (omega arith) {i = i} {j = 17} (omega arith), small)

pub all_small : (n k : ℕ) → n < 10 ^ k → k ≤ 18 → n < 10 ^ 18
all_small n k small le = omega (arith, pow-le-pow_right {n = 10} (omega arith) {i = k} {j = 18} le, small)

pub more_small : (i n d : ℕ) → n < 10 ^ i → d ≤ 9 → 10 * n + d < 10 ^ (i + 1)
more_small i n d small le =
    let power : 10 ^ (i + 1) ≡ 10 ^ i * 10 = rw add-one (pow-suc 10 i) in
    omega (arith, power)

pub more_value : (digits : List ℕ) (i n d : ℕ) → i < length digits → n ≡ decimal_value (take i digits)
    → d ≡ get_or digits i 0 - 48 → 10 * n + d ≡ decimal_value (take (i + 1) digits)
more_value digits i n d lt e f = rw (fold_more (λ m c. 10 * m + (c - 48)) 0 digits i 0 lt) (omega arith)
