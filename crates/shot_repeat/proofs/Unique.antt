-- One text has one record, and no record begins another or END.
use Rattle.std.proofs.Common.{◌≡◌, ℕ, ℤ, pos, negsuc, suc, ◌<◌, ◌^◌, unsigned_abs, is_some, List, [], ◌∷◌, ◌++◌, Option}
use Rattle.std.proofs.Common.{Some, None, All, refl, arith, ap, sym, ◌∙◌, append_assoc}
use Rattle.std.specs.Prelude.{flat_map}
use Rattle.std.proofs.lemmas.Int.{ints}
use Rattle.oas_lex.specs.Spelling.{unsigned_text, signed_text}
use Rattle.oas_lex.specs.ShotText.{id_for, end}
use Rattle.oas_lex.proofs.ForCallers.{unsigned_peel, signed_peel, delta_peel, id_tests, not_end}
use Rattle.shot_repeat.specs.Records.{IsNarrowNumber, IsNarrowPlace, IsNarrowRepetition, IsNarrow, info_of, number_text}
use Rattle.shot_repeat.specs.Records.{place_text, step_code, steps_text, repetition_text, record_text}
use Rattle.shot_repeat.specs.declared.record.PackRecord.{PackRecord}
use Rattle.shot_repeat.specs.declared.record.Repetition.{Repetition}
use Rattle.shot_repeat.proofs.Texts.{opened, record_opens, SaysWhat, info_says}

number_peel : (o p : Option ℕ) (x y : List ℕ) → is_some o ≡ is_some p → IsNarrowNumber o → IsNarrowNumber p
    → number_text o ++ x ≡ number_text p ++ y → (o ≡ p) × (x ≡ y)
number_peel None None x y s h g e = (refl, e)
number_peel None (Some m) x y s h g e = absurd (cc)
number_peel (Some n) None x y s h g e = absurd (cc)
number_peel (Some n) (Some m) x y s h g e = let both = unsigned_peel n m x y h g e in (ap Some both.0, both.1)

place_peel : (o p : Option ℤ) (x y : List ℕ) → is_some o ≡ is_some p → IsNarrowPlace o → IsNarrowPlace p
    → place_text o ++ x ≡ place_text p ++ y → (o ≡ p) × (x ≡ y)
place_peel None None x y s h g e = (refl, e)
place_peel None (Some m) x y s h g e = absurd (cc)
place_peel (Some n) None x y s h g e = absurd (cc)
place_peel (Some n) (Some m) x y s h g e = let both = signed_peel n m x y h g e in (ap Some both.0, both.1)

code_names : (a b : ℤ) → step_code a ≡ step_code b → a ≡ b
code_names (pos n) (pos m) e = ap pos (omega arith)
code_names (pos n) (negsuc m) e = absurd (omega arith)
code_names (negsuc n) (pos m) e = absurd (omega arith)
code_names (negsuc n) (negsuc m) e = ap negsuc (omega arith)

pub code_narrow : (a : ℤ) → unsigned_abs a < 2 ^ 61 → step_code a < 2 ^ 63
code_narrow (pos n) h = omega (arith, ints)
code_narrow (negsuc n) h = omega (arith, ints)

repeats : ℕ → ℤ → ℤ → Repetition
repeats more x y = record { more = more; x = x; y = y }

repeats_by : (a b : ℕ) (c d e f : ℤ) → a ≡ b → c ≡ d → e ≡ f → repeats a c e ≡ repeats b d f
repeats_by a b c d e f p q r = rw (p, q, r) refl

pub same_repetition : (p q : Repetition) → p.more ≡ q.more → p.x ≡ q.x → p.y ≡ q.y → p ≡ q
unfolding repeats
same_repetition p q a b c = repeats_by p.more q.more p.x q.x p.y q.y a b c

pub steps_opens : (p : Repetition) (x : List ℕ) → steps_text p ++ x ≡ unsigned_text p.more ++ (unsigned_text (step_code p.x) ++ (signed_text p.y ++ x))
steps_opens p x = simp append_assoc

steps_peel : (p q : Repetition) (x y : List ℕ) → IsNarrowRepetition (Some p) → IsNarrowRepetition (Some q)
    → steps_text p ++ x ≡ steps_text q ++ y → (p ≡ q) × (x ≡ y)
steps_peel p q x y h g e =
    let whole = sym (steps_opens p x) ∙ (e ∙ steps_opens q y) in
    let a = unsigned_peel p.more q.more _ _ h.0 g.0 whole in
    let b = unsigned_peel (step_code p.x) (step_code q.x) _ _ (code_narrow p.x h.1) (code_narrow q.x g.1) a.1 in
    let c = signed_peel p.y q.y _ _ h.2 g.2 b.1 in
    (same_repetition p q a.0 (code_names p.x q.x b.0) c.0, c.1)

repetition_peel : (o p : Option Repetition) (x y : List ℕ) → is_some o ≡ is_some p → IsNarrowRepetition o
    → IsNarrowRepetition p → repetition_text o ++ x ≡ repetition_text p ++ y → (o ≡ p) × (x ≡ y)
repetition_peel None None x y s h g e = (refl, e)
repetition_peel None (Some m) x y s h g e = absurd (cc)
repetition_peel (Some n) None x y s h g e = absurd (cc)
repetition_peel (Some n) (Some m) x y s h g e =
    let rest : steps_text n ++ x ≡ steps_text m ++ y = cc in
    let both = steps_peel n m x y h g rest in
    (ap Some both.0, both.1)

made : Option ℕ → Option ℕ → Option ℕ → Option ℕ → ℤ → ℤ → Option ℤ → Option ℤ → Option Repetition → PackRecord
made layer datatype width height left right x y repetition = record {
  layer = layer;
  datatype = datatype;
  width = width;
  height = height;
  left_delta = left;
  right_delta = right;
  x = x;
  y = y;
  repetition = repetition;
}

made_by : (a b c d : Option ℕ) (e f : ℤ) (g h : Option ℤ) (i : Option Repetition) (j k l m : Option ℕ) (n o : ℤ)
    (p q : Option ℤ) (r : Option Repetition) → a ≡ j → b ≡ k → c ≡ l → d ≡ m → e ≡ n → f ≡ o → g ≡ p → h ≡ q → i ≡ r
    → made a b c d e f g h i ≡ made j k l m n o p q r
made_by a b c d e f g h i j k l m n o p q r aa bb cc dd ee ff gg hh ii = rw (aa, bb, cc, dd, ee, ff, gg, hh, ii) refl

pub same_record : (r s : PackRecord) → r.layer ≡ s.layer → r.datatype ≡ s.datatype → r.width ≡ s.width
    → r.height ≡ s.height → r.left_delta ≡ s.left_delta → r.right_delta ≡ s.right_delta → r.x ≡ s.x → r.y ≡ s.y
    → r.repetition ≡ s.repetition → r ≡ s
unfolding made
same_record r s a b c d e f g h i =
    made_by r.layer r.datatype r.width r.height r.left_delta r.right_delta r.x r.y r.repetition s.layer s.datatype
    s.width s.height s.left_delta s.right_delta s.x s.y s.repetition a b c d e f g h i

pub one_record : (r s : PackRecord) (x y : List ℕ) → IsNarrow r → IsNarrow s → record_text r ++ x ≡ record_text s ++ y → (r ≡ s) × (x ≡ y)
one_record r s x y h k equal =
    let whole : id_for r.left_delta r.right_delta ∷ info_of r ∷ opened r x ≡ id_for s.left_delta s.right_delta
    ∷ info_of s ∷ opened s y = sym (record_opens r x) ∙ (equal ∙ record_opens s y) in
    let id : id_for r.left_delta r.right_delta ≡ id_for s.left_delta s.right_delta = cc in
    let info : info_of r ≡ info_of s = cc in
    let rest : opened r x ≡ opened s y = cc in
    let tests = id_tests r.left_delta r.right_delta s.left_delta s.right_delta id in
    let own : SaysWhat (info_of s) r = rw (← info) (info_says r) in
    let other = info_says s in
    let a = number_peel r.layer s.layer _ _ (sym own.layer ∙ other.layer) h.layer k.layer rest in
    let b = number_peel r.datatype s.datatype _ _ (sym own.datatype ∙ other.datatype) h.datatype k.datatype a.1 in
    let c = number_peel r.width s.width _ _ (sym own.width ∙ other.width) h.width k.width b.1 in
    let d = number_peel r.height s.height _ _ (sym own.height ∙ other.height) h.height k.height c.1 in
    let e = delta_peel r.left_delta s.left_delta _ _ tests.0 h.left k.left d.1 in
    let i = delta_peel r.right_delta s.right_delta _ _ tests.1 h.right k.right e.1 in
    let j = place_peel r.x s.x _ _ (sym own.x ∙ other.x) h.x k.x i.1 in
    let m = place_peel r.y s.y _ _ (sym own.y ∙ other.y) h.y k.y j.1 in
    let n = repetition_peel r.repetition s.repetition _ _ (sym own.repetition ∙ other.repetition) h.repetition k.repetition m.1 in
    (same_record r s a.0 b.0 c.0 d.0 e.0 i.0 j.0 m.0 n.0, n.1)

-- a record doesn't begin as END does
pub record_not_end : (r : PackRecord) (x y : List ℕ) → 2 ∷ x ≡ record_text r ++ y → ⊥
record_not_end r x y e =
    let whole : 2 ∷ x ≡ id_for r.left_delta r.right_delta ∷ info_of r ∷ opened r y = e ∙ record_opens r y in
    let id : id_for r.left_delta r.right_delta ≡ 2 = cc in
    not_end r.left_delta r.right_delta id

-- ---- lists of records

pub more : (r : PackRecord) (rs : List PackRecord) (x : List ℕ) → flat_map record_text (r ∷ rs) ++ x ≡ record_text r ++ (flat_map record_text rs ++ x)
more r rs x = append_assoc (record_text r) (flat_map record_text rs) x

pub narrow_rest : (r : PackRecord) (rs : List PackRecord) → All IsNarrow (r ∷ rs) → All IsNarrow rs
narrow_rest r rs h = λ k x below. h (suc k) x (omega arith)

-- the records before END are one list
pub one_list : (rs ss : List PackRecord) → All IsNarrow rs → All IsNarrow ss → flat_map record_text rs ++ end ≡ flat_map record_text ss ++ end → rs ≡ ss
one_list [] [] h k e = refl
one_list [] (s ∷ ss) h k e = absurd (record_not_end s _ _ (e ∙ more s ss end))
one_list (r ∷ rs) [] h k e = absurd (record_not_end r _ _ (sym e ∙ more r rs end))
one_list (r ∷ rs) (s ∷ ss) h k e =
    let both = one_record r s (flat_map record_text rs ++ end) (flat_map record_text ss ++ end) (h 0 r (omega arith))
    (k 0 s (omega arith)) (sym (more r rs end) ∙ (e ∙ more s ss end)) in
    let rest = one_list rs ss (narrow_rest r rs h) (narrow_rest s ss k) both.1 in
    ap (λ (t : PackRecord). t ∷ rs) both.0 ∙ ap (λ (t : List PackRecord). s ∷ t) rest
