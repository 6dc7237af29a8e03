-- What an appending of a number's groups keeps: what stands and the groups that are left are the whole.
use Rattle.std.proofs.Common.{◌≡◌, ℕ, zero, suc, ◌+◌, ◌/◌, ◌%◌, ◌^◌, ◌<◌, ◌≤◌, List, [], ◌∷◌, ◌++◌, length, refl, arith}
use Rattle.std.proofs.Common.{ap, sym, ◌∙◌, append_assoc, length-append, inl, inr}
use Rattle.std.proofs.lemmas.Bool.{cases_lt}
use Rattle.oas_lex.specs.Spelling.{groups, unsigned_text}
use Rattle.oas_lex.proofs.Groups.{limit, groups_last, groups_next, length_unsigned}

pub record PartlyPut (before : List ℕ) (value : ℕ) (now : List ℕ) (left : ℕ) : Type 0 where
  pub more : ℕ
  pub below : left < limit more
  pub whole : now ++ groups more left ≡ before ++ unsigned_text value

pub put_none : (before : List ℕ) (value : ℕ) → value < 2 ^ 63 → PartlyPut before value before value
unfolding unsigned_text
put_none before value h = record { more = 9; below = omega arith; whole = refl }

put_more_by : (before : List ℕ) (value : ℕ) (now : List ℕ) (left more : ℕ) → left < limit more
    → now ++ groups more left ≡ before ++ unsigned_text value → 128 ≤ left
    → PartlyPut before value (now ++ (left % 128 + 128) ∷ []) (left / 128)
put_more_by before value now left zero below whole h = absurd (omega arith)
put_more_by before value now left (suc more) below whole h = record {
  more = more;
  below = omega arith;
  whole = append_assoc now ((left % 128 + 128) ∷ []) (groups more (left / 128)) ∙ (ap (λ t. now ++ t) (sym (groups_next more left h)) ∙ whole);
}

pub put_more : (before : List ℕ) (value : ℕ) (now : List ℕ) (left : ℕ) → PartlyPut before value now left → 128 ≤ left
    → PartlyPut before value (now ++ (left % 128 + 128) ∷ []) (left / 128)
put_more before value now left s h = put_more_by before value now left s.more s.below s.whole h

pub put_all : (before : List ℕ) (value : ℕ) (now : List ℕ) (left : ℕ) → PartlyPut before value now left → left < 128
    → now ++ left ∷ [] ≡ before ++ unsigned_text value
put_all before value now left s h = ap (λ t. now ++ t) (sym (groups_last s.more left h)) ∙ s.whole

-- there is a group left, so there is room for it
some_group : (more n : ℕ) → n < limit more → 0 < length (groups more n)
some_group zero n h = omega arith
some_group (suc more) n h = elim (cases_lt n 128) [ inl small ↦ rw groups_last (omega arith) | inr large ↦ rw groups_next (omega arith) ]

pub put_room : (before : List ℕ) (value : ℕ) (now : List ℕ) (left : ℕ) → PartlyPut before value now left → value < 2 ^ 63 → length now < length before + 9
put_room before value now left s h =
    omega (
      arith,
      length-append now (groups s.more left),
      length-append before
          (unsigned_text value),
      ap length s.whole,
      some_group s.more left s.below,
      length_unsigned value h,
    )
