-- Texts that grow step by step.
use Rattle.std.proofs.Common.{◌≡◌, ℕ, suc, ◌<◌, ◌≤◌, ◌+◌, ◌-◌, List, [], ◌∷◌, ◌++◌, length, drop, slice_index_or, ap, ◌∙◌, arith}
use Rattle.std.proofs.lemmas.List.{at_drop_more, at_drop_all, length-drop}
use Rattle.explain.specs.Shown.{blanks, comma_after, grouped}

pub blanks_step : (n k : ℕ) → k < n → blanks (n - k) ≡ 32 ∷ blanks (n - (k + 1))
unfolding blanks
blanks_step n k less =
    let e : n - k ≡ suc (n - (k + 1)) = omega arith in
    ap blanks e

pub blanks_none : (n k : ℕ) → n ≤ k → blanks (n - k) ≡ []
unfolding blanks
blanks_none n k all =
    let e : n - k ≡ 0 = omega arith in
    ap blanks e

pub grouped_step : (xs : List ℕ) (i d : ℕ) → i < length xs
    → grouped (drop i xs) ≡ slice_index_or xs i d ∷ (comma_after (length xs - i - 1) ++ grouped (drop (i + 1) xs))
unfolding grouped
grouped_step xs i d less =
    let one : length xs - (i + 1) ≡ length xs - i - 1 = omega arith in
    let left : length (drop (i + 1) xs) ≡ length xs - i - 1 = length-drop (i + 1) xs ∙ one in
    at_drop_more grouped xs i d less
    ∙ ap (λ (n : ℕ). slice_index_or xs i d ∷ (comma_after n ++ grouped (drop (i + 1) xs))) left

pub grouped_none : (xs : List ℕ) (i : ℕ) → length xs ≤ i → grouped (drop i xs) ≡ []
unfolding grouped
grouped_none xs i all = at_drop_all grouped xs i all
