-- The laws of the spellings of integers.
use Rattle.std.proofs.Common.{◌≡◌, ℕ, zero, suc, ◌+◌, ◌-◌, ◌/◌, ◌^◌, ◌<◌, ◌≤◌, ℤ, unsigned_abs, List, [], ◌∷◌, ◌++◌}
use Rattle.std.proofs.Common.{length, take, drop, refl, arith, inl, inr, ap, sym, ◌∙◌, length-append}
use Rattle.std.proofs.lemmas.Bool.{cases_lt}
use Rattle.std.proofs.Math.Seq.{take-append_seam}
use Rattle.std.proofs.lemmas.List.Prefix.{front_rest}
use Rattle.oas_lex.specs.Spelling.{groups, unsigned_text, signed_code, signed_text}
use Rattle.oas_lex.specs.Numbers.{IsWholeNumber, IsUnsigned, IsSigned, HasUnsigned, HasSigned, value_of, signed_value}
use Rattle.oas_lex.proofs.Groups.{groups_last, groups_next, unsigned_spells}
use Rattle.oas_lex.proofs.Reading.{has_one, unsigned_of_signed}
use Rattle.oas_lex.proofs.Codes.{code_below, signed_spells, least_code}

-- a spelling of a number that is no less has no fewer groups
fewer_groups : (more n : ℕ) (other : List ℕ) → IsWholeNumber other → n ≤ value_of other → length (groups more n) ≤ length other
fewer_groups more n [] h e = absurd h
fewer_groups zero n (b ∷ other) h e = omega arith
fewer_groups (suc more) n (b ∷ other) h e =
    elim (cases_lt n 128) [
      | inl small ↦ rw groups_last (omega arith)
      | inr large ↦ elim h [
        | inl last ↦ let nothing : value_of other ≡ 0 = ap value_of last.1 in absurd (omega arith)
        | inr next ↦
            let rest : n / 128 ≤ value_of other = omega arith in
            rw groups_next (omega (arith, fewer_groups more (n / 128) other next.1 rest))
      ]
    ]

pub signed_least : (z : ℤ) (other : List ℕ) → unsigned_abs z < 2 ^ 62 → IsSigned other z → length (signed_text z) ≤ length other
unfolding unsigned_text
signed_least z other h s = fewer_groups 9 (signed_code z) other s.whole (least_code (value_of other) z s.value)

-- what stands between two lists
between : (before text after : List ℕ) → take (length before + length text - length before) (drop (length before) (before ++ (text ++ after))) ≡ text
between before text after =
    let count : length before + length text - length before ≡ length text = omega arith in
    rw (count, front_rest (before ++ (text ++ after)) before (text ++ after) refl, take-append_seam text after) refl

room : (before text after : List ℕ) → length before + length text ≤ length (before ++ (text ++ after))
room before text after = omega (arith, length-append before (text ++ after), length-append text after)

pub unsigned_back : (n : ℕ) (before after : List ℕ) → n < 2 ^ 63 → HasUnsigned (before ++ (unsigned_text n ++ after))
    (length before) n (length before + length (unsigned_text n))
unsigned_back n before after h = record {
  within = room before (unsigned_text n) after;
  spells = rw (between before (unsigned_text n) after) (unsigned_spells n h);
  narrow = h;
}

pub signed_back : (z : ℤ) (before after : List ℕ) → unsigned_abs z < 2 ^ 62
    → HasSigned (before ++ (signed_text z ++ after)) (length before) z (length before + length (signed_text z))
signed_back z before after h =
    let below : signed_code z < 2 ^ 63 = code_below z h in
    let spells : IsUnsigned (signed_text z) (signed_code z) = unsigned_spells (signed_code z) below in
    record {
      within = room before (signed_text z) after;
      spells = rw (between before (signed_text z) after) (signed_spells z h);
      narrow = rw (between before (signed_text z) after) (rw spells.value below);
    }

pub one_signed : (bytes : List ℕ) (at : ℕ) (y : ℤ) (next : ℕ) (z : ℤ) (last : ℕ) → HasSigned bytes at y next
    → HasSigned bytes at z last → (y ≡ z) × (next ≡ last)
one_signed bytes at y next z last h g =
    let both : (value_of (take (next - at) (drop at bytes)) ≡ value_of (take (last - at) (drop at bytes))) × (next ≡ last) =
    has_one bytes at (value_of (take (next - at) (drop at bytes))) next
    (value_of (take (last - at) (drop at bytes))) last (unsigned_of_signed bytes at y next h)
    (unsigned_of_signed bytes at z last g) in
    (sym h.spells.value ∙ (ap signed_value both.0 ∙ g.spells.value), both.1)
