-- A number that stands next among the bytes is read, and what follows it stands after it.
use Rattle.std.proofs.Common.{◌≡◌, ℕ, ◌+◌, ◌<◌, ◌≤◌, ◌^◌, List, ◌++◌, Bool, true, false, nat_eq, length, take, drop, min, refl, arith, ap, sym, subst, ◌∙◌}
use Rattle.std.proofs.lemmas.List.{take-append-drop, length-append, length-drop}
use Rattle.std.proofs.Math.Seq.{drop-append_seam, drop-append-add, take-append_seam}
use Rattle.std.specs.Cmp.Lexicographic.{same_text, other_text}
use lib.Pointwise.{pointwise}
use Rattle.oas_lex.specs.ShotText.{head}
use Rattle.oas_lex.specs.Spelling.{unsigned_text}
use Rattle.oas_lex.specs.Numbers.{HasUnsigned}
use Rattle.oas_lex.proofs.ForCallers.{unsigned_back, before_unit, after_unit, head_is}

take_size : (at : ℕ) (bytes : List ℕ) → at ≤ length bytes → length (take at bytes) ≡ at
take_size at bytes h = omega (arith, ap length (take-append-drop at bytes), length-append (take at bytes) (drop at bytes), length-drop at bytes, h)

split_at : (at : ℕ) (bytes text after : List ℕ) → drop at bytes ≡ text ++ after → bytes ≡ take at bytes ++ (text ++ after)
split_at at bytes text after e = sym (take-append-drop at bytes) ∙ ap (λ (l : List ℕ). take at bytes ++ l) e

after_by : (front text after : List ℕ) → drop (length front + length text) (front ++ (text ++ after)) ≡ after
after_by front text after = drop-append-add front (text ++ after) (length text) ∙ drop-append_seam text after

-- what follows a text that stands at `at`
pub after_text : (at : ℕ) (bytes text after : List ℕ) → at ≤ length bytes → drop at bytes ≡ text ++ after → drop (at + length text) bytes ≡ after
after_text at bytes text after h e =
    ap (λ (n : ℕ). drop (n + length text) bytes) (sym (take_size at bytes h))
    ∙ (ap (λ (l : List ℕ). drop (length (take at bytes) + length text) l) (split_at at bytes text after e) ∙ after_by (take at bytes) text after)

pub unsigned_there : (at n : ℕ) (bytes after : List ℕ) → at ≤ length bytes → n < 2 ^ 63
    → drop at bytes ≡ unsigned_text n ++ after → HasUnsigned bytes at n (at + length (unsigned_text n))
unsigned_there at n bytes after h narrow e =
    subst (λ (p : ℕ). HasUnsigned bytes p n (p + length (unsigned_text n))) (take_size at bytes h)
    (subst (λ (l : List ℕ). HasUnsigned l (length (take at bytes)) n
    (length (take at bytes) + length (unsigned_text n))) (sym (split_at at bytes (unsigned_text n) after e))
    (unsigned_back n (take at bytes) after narrow))

-- the offset and what follows, for a number that was read
pub read_next : {A : Type 0} (z w : A) (at next : ℕ) (bytes text after : List ℕ) → at ≤ length bytes
    → drop at bytes ≡ text ++ after → w ≡ z → next ≡ at + length text → (w ≡ z) × (drop next bytes ≡ after)
read_next z w at next bytes text after h e is n = (is, ap (λ (k : ℕ). drop k bytes) n ∙ after_text at bytes text after h e)

-- a text that begins what stands at `at`, by the test of a slice
pub stands_by : (rest text : List ℕ) (r : Bool) → r ≡ pointwise nat_eq text (take (length text) rest) → r ≡ true → rest ≡ text ++ drop (length text) rest
stands_by rest text r e told =
    sym (take-append-drop (length text) rest) ∙ ap (λ (l : List ℕ). l ++ drop (length text) rest)
    (sym (same_text text (take (length text) rest) (sym told ∙ e)))

pub begins_by : (rest text after : List ℕ) (r : Bool) → r ≡ pointwise nat_eq text (take (length text) rest) → rest ≡ text ++ after → r ≡ true
begins_by rest text after true e w = refl
begins_by rest text after false e w = absurd (other_text text (take (length text) rest) e (sym (ap (take (length text)) w ∙ take-append_seam text after)))

pub same_by : (xs ys : List ℕ) (r : Bool) → r ≡ pointwise nat_eq xs ys → xs ≡ ys → r ≡ true
same_by xs ys true e w = refl
same_by xs ys false e w = absurd (other_text xs ys e w)

-- the unit of a head
pub unit_there : (unit at : ℕ) (bytes after : List ℕ) → at ≡ min 19 (length bytes) → bytes ≡ head unit ++ after
    → drop at bytes ≡ unsigned_text unit ++ (after_unit ++ after)
unit_there unit at bytes after h e =
    let whole : bytes ≡ before_unit ++ (unsigned_text unit ++ (after_unit ++ after)) = e ∙ head_is unit after in
    let place : at ≡ 19 = omega (arith, h, ap length whole, length-append before_unit (unsigned_text unit ++ (after_unit ++ after))) in
    ap (λ (n : ℕ). drop n bytes) place ∙ (ap (drop 19) whole ∙ drop-append_seam before_unit (unsigned_text unit ++ (after_unit ++ after)))
