-- The text of a record's fields names them.
use Rattle.std.proofs.Common.{◌≡◌, ℕ, ℤ, ◌<◌, List, [], ◌∷◌, ◌++◌, length, arith, append_assoc, ap, sym, refl, ◌∙◌, FitsSigned, w64}
use Rattle.std.proofs.lemmas.Int.{to_z-of_z}
use mir.Val.{to_z, of_z}
use Rattle.half_grid.specs.Trapezoids.{Trapezoid}
use Rattle.oas_lex.specs.Spelling.{unsigned_text, signed_text}
use Rattle.oas_lex.specs.ShotText.{AreNarrow, id_for, delta_text, text_of, fields_of, spelling_of}
use Rattle.oas_lex.specs.declared.fields.ShotFields.{ShotFields}
use Rattle.oas_lex.proofs.Peels.{unsigned_peel, signed_peel, delta_peel, id_tests}

-- a record that is put together field by field is the text of the fields
pub fields_spelled : (f : ShotFields) (s0 s1 s2 s3 s4 s5 s6 s7 s8 s9 s10 : List ℕ)
    → s0 ≡ [] → s1 ≡ s0 ++ id_for f.left_delta f.right_delta ∷ [] → s2 ≡ s1 ++ 123 ∷ []
    → s3 ≡ s2 ++ unsigned_text f.layer → s4 ≡ s3 ++ unsigned_text f.datatype
    → s5 ≡ s4 ++ unsigned_text f.width → s6 ≡ s5 ++ unsigned_text f.height
    → s7 ≡ s6 ++ delta_text f.left_delta → s8 ≡ s7 ++ delta_text f.right_delta
    → s9 ≡ s8 ++ signed_text f.x → s10 ≡ s9 ++ signed_text f.y
    → s10 ≡ text_of f
unfolding text_of
fields_spelled f s0 s1 s2 s3 s4 s5 s6 s7 s8 s9 s10 e0 e1 e2 e3 e4 e5 e6 e7 e8 e9 e10 =
    rw (e10, e9, e8, e7, e6, e5, e4, e3, e2, e1, e0) (simp append_assoc)

-- what a number appends that was passed as a word of 64 bits
pub passed : (text : ℤ → List ℕ) (z : ℤ) (before after : List ℕ) → FitsSigned w64 z → after ≡ before ++ text (to_z w64 (of_z w64 z)) → after ≡ before ++ text z
passed text z before after fits e = e ∙ ap (λ v. before ++ text v) (to_z-of_z w64 z fits)

-- a record's fields after its id and its info byte, and what follows them
abbrev pub opened : ShotFields → List ℕ → List ℕ
opened f after =
    unsigned_text f.layer
    ++ (unsigned_text f.datatype
    ++ (unsigned_text f.width
    ++ (unsigned_text f.height
    ++ (delta_text f.left_delta ++ (delta_text f.right_delta ++ (signed_text f.x ++ (signed_text f.y ++ after)))))))

pub text_opens : (f : ShotFields) (after : List ℕ) → text_of f ++ after ≡ id_for f.left_delta f.right_delta ∷ 123 ∷ opened f after
unfolding text_of
text_opens f after = simp append_assoc

pub text_some : (f : ShotFields) (text : List ℕ) → text ≡ text_of f → 0 < length text
unfolding text_of
text_some f text e = omega (arith, ap length e)

pub spelling_is : (l d : ℕ) (z : Trapezoid) → spelling_of l d z ≡ text_of (fields_of l d z)
unfolding spelling_of
spelling_is l d z = refl

pub spelling_some : (l d : ℕ) (z : Trapezoid) → 0 < length (spelling_of l d z)
spelling_some l d z = text_some (fields_of l d z) (spelling_of l d z) (spelling_is l d z)

fields : ℕ → ℕ → ℕ → ℕ → ℤ → ℤ → ℤ → ℤ → ShotFields
fields layer datatype width height left right x y = record {
  layer = layer;
  datatype = datatype;
  width = width;
  height = height;
  left_delta = left;
  right_delta = right;
  x = x;
  y = y;
}

same_by : (a b c d : ℕ) (e f g h : ℤ) (i j k l : ℕ) (m n o p : ℤ) → a ≡ i → b ≡ j → c ≡ k → d ≡ l → e ≡ m → f ≡ n
    → g ≡ o → h ≡ p → fields a b c d e f g h ≡ fields i j k l m n o p
same_by a b c d e f g h i j k l m n o p q r s t u v w x = rw (q, r, s, t, u, v, w, x) refl

pub same_fields : (f g : ShotFields) → f.layer ≡ g.layer → f.datatype ≡ g.datatype → f.width ≡ g.width
    → f.height ≡ g.height → f.left_delta ≡ g.left_delta → f.right_delta ≡ g.right_delta → f.x ≡ g.x → f.y ≡ g.y → f ≡ g
unfolding fields
same_fields f g a b c d e h i j =
    same_by f.layer f.datatype f.width f.height f.left_delta f.right_delta f.x f.y g.layer g.datatype g.width g.height
    g.left_delta g.right_delta g.x g.y a b c d e h i j

-- one text has one list of fields
pub one_record : (f g : ShotFields) (x y : List ℕ) → AreNarrow f → AreNarrow g → text_of f ++ x ≡ text_of g ++ y → (f ≡ g) × (x ≡ y)
one_record f g x y h k equal =
    let whole : id_for f.left_delta f.right_delta ∷ 123 ∷ opened f x ≡ id_for g.left_delta g.right_delta ∷ 123
    ∷ opened g y = sym (text_opens f x) ∙ (equal ∙ text_opens g y) in
    let id : id_for f.left_delta f.right_delta ≡ id_for g.left_delta g.right_delta = cc in
    let rest : opened f x ≡ opened g y = cc in
    let tests = id_tests f.left_delta f.right_delta g.left_delta g.right_delta id in
    let a = unsigned_peel f.layer g.layer _ _ h.layer k.layer rest in
    let b = unsigned_peel f.datatype g.datatype _ _ h.datatype k.datatype a.1 in
    let c = unsigned_peel f.width g.width _ _ h.width k.width b.1 in
    let d = unsigned_peel f.height g.height _ _ h.height k.height c.1 in
    let e = delta_peel f.left_delta g.left_delta _ _ tests.0 h.left k.left d.1 in
    let i = delta_peel f.right_delta g.right_delta _ _ tests.1 h.right k.right e.1 in
    let j = signed_peel f.x g.x _ _ h.x k.x i.1 in
    let m = signed_peel f.y g.y _ _ h.y k.y j.1 in
    (same_fields f g a.0 b.0 c.0 d.0 e.0 i.0 j.0 m.0, m.1)
