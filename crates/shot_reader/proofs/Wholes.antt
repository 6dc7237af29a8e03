-- The text of fields is a whole record.
use Rattle.std.proofs.Common.{◌≡◌, ◌+◌, ℕ, ℤ, pos, ◌<◌, ◌≤◌, ◌^◌, Bool, true, false, cond, List, [], ◌∷◌, ◌++◌, arith, unsigned_abs, ap, refl, ◌∙◌, inl, inr}
use Rattle.std.specs.Ordering.{int_eq}
use Rattle.oas_lex.specs.Spelling.{unsigned_text, signed_text}
use Rattle.oas_lex.specs.ShotText.{AreNarrow, id_for, delta_text, text_of}
use Rattle.oas_lex.specs.declared.fields.ShotFields.{ShotFields}
use Rattle.oas_lex.proofs.ForCallers.{unsigned_spells, signed_spells, opened, text_opens}
use Rattle.shot_reader.specs.Refusals.{HasNumberCount, IsWholeShotRecord}
use Rattle.shot_reader.proofs.Ends.{ends, ends_append, ends_one, whole_by}

unsigned_ends : (n : ℕ) (x : List ℕ) → n < 2 ^ 63 → ends (unsigned_text n ++ x) ≡ 1 + ends x
unsigned_ends n x h = ends_append (unsigned_text n) x ∙ ap (λ (k : ℕ). k + ends x) (ends_one (unsigned_text n) (unsigned_spells n h).whole)

signed_ends : (z : ℤ) (x : List ℕ) → unsigned_abs z < 2 ^ 62 → ends (signed_text z ++ x) ≡ 1 + ends x
signed_ends z x h = ends_append (signed_text z) x ∙ ap (λ (k : ℕ). k + ends x) (ends_one (signed_text z) (signed_spells z h).whole)

delta_ends : (p : Bool) (z : ℤ) (x : List ℕ) → unsigned_abs z < 2 ^ 62 → ends (cond p [] (signed_text z) ++ x) ≡ cond p 0 1 + ends x
delta_ends true z x h = omega arith
delta_ends false z x h = signed_ends z x h

count_by_tests : (p q : Bool) → HasNumberCount (cond p (cond q 20 25) (cond q 24 23)) (6 + cond p 0 1 + cond q 0 1)
count_by_tests true true = inl (refl, refl)
count_by_tests true false = inr (inr (inr (refl, refl)))
count_by_tests false true = inr (inr (inl (refl, refl)))
count_by_tests false false = inr (inl (refl, refl))

opened_ends : (f : ShotFields) (after : List ℕ) → AreNarrow f → 6 + cond (int_eq f.left_delta (pos 0)) 0 1 + cond
    (int_eq f.right_delta (pos 0)) 0 1 ≤ ends (opened f after)
opened_ends f after h =
    let y = signed_ends f.y after h.y in
    let x = signed_ends f.x (signed_text f.y ++ after) h.x in
    let r = delta_ends (int_eq f.right_delta (pos 0)) f.right_delta (signed_text f.x ++ (signed_text f.y ++ after)) h.right in
    let l = delta_ends (int_eq f.left_delta (pos 0)) f.left_delta (delta_text f.right_delta ++ (signed_text f.x ++ (signed_text f.y ++ after))) h.left in
    let d = unsigned_ends f.height (delta_text f.left_delta ++ (delta_text f.right_delta ++ (signed_text f.x ++ (signed_text f.y ++ after)))) h.height in
    let c = unsigned_ends f.width
    (unsigned_text f.height
    ++ (delta_text f.left_delta
    ++ (delta_text f.right_delta ++ (signed_text f.x ++ (signed_text f.y ++ after))))) h.width in
    let b = unsigned_ends f.datatype
    (unsigned_text f.width
    ++ (unsigned_text f.height
    ++ (delta_text f.left_delta
    ++ (delta_text f.right_delta ++ (signed_text f.x ++ (signed_text f.y ++ after)))))) h.datatype in
    let a = unsigned_ends f.layer
    (unsigned_text f.datatype
    ++ (unsigned_text f.width
    ++ (unsigned_text f.height
    ++ (delta_text f.left_delta
    ++ (delta_text f.right_delta ++ (signed_text f.x ++ (signed_text f.y ++ after))))))) h.layer in
    omega arith

pub text_whole : (f : ShotFields) (rest after : List ℕ) → AreNarrow f → rest ≡ text_of f ++ after → IsWholeShotRecord rest
text_whole f rest after h e =
    let own : IsWholeShotRecord (id_for f.left_delta f.right_delta ∷ 123 ∷ opened f after) =
    whole_by (id_for f.left_delta f.right_delta)
    (6 + cond (int_eq f.left_delta (pos 0)) 0 1 + cond (int_eq f.right_delta (pos 0)) 0 1) (opened f after)
    (count_by_tests (int_eq f.left_delta (pos 0)) (int_eq f.right_delta (pos 0))) (opened_ends f after h) in
    rw (e, text_opens f after) own
