-- The last values are kept from record to record.
use Rattle.std.proofs.Common.{◌≡◌, ℕ, ℤ, pos, List, [], ◌∷◌, ◌++◌, Option, Some, None, unwrap_or, IsSome, refl, ap, sym, ◌∙◌}
use Rattle.oas_lex.specs.declared.fields.ShotFields.{ShotFields}
use Rattle.oas_lex.proofs.ForCallers.{same_fields}
use Rattle.shot_repeat.specs.Modal.{updated, AreLast, IsShown}
use Rattle.shot_repeat.specs.Values.{newer, last_written, IsDefined, fields_in}
use Rattle.shot_repeat.specs.declared.modal.Modal.{Modal}
use Rattle.shot_repeat.specs.declared.record.PackRecord.{PackRecord}

newer_none : {A : Type 0} (o : Option A) → newer None o ≡ newer o None
newer_none None = refl
newer_none (Some v) = refl

newer_three : {A : Type 0} (o p q : Option A) → newer (newer o p) q ≡ newer o (newer p q)
newer_three None p q = refl
newer_three (Some v) p q = refl

-- the last value of a field, with one more record
pub last_more : {A : Type 0} (field : PackRecord → Option A) (rs : List PackRecord) (r : PackRecord)
    → last_written field (rs ++ r ∷ []) ≡ newer (field r) (last_written field rs)
last_more field [] r = newer_none (field r)
last_more field (s ∷ rs) r = ap (λ (o : Option _). newer o (field s)) (last_more field rs r) ∙ newer_three (field r) (last_written field rs) (field s)

place_more : (o lasts : Option ℤ) (x : ℤ) → x ≡ unwrap_or lasts (pos 0) → unwrap_or o x ≡ unwrap_or (newer o lasts) (pos 0)
place_more None lasts x e = e
place_more (Some v) lasts x e = refl

pub lasts_more : (before : List PackRecord) (m : Modal) (r : PackRecord) → AreLast before m → AreLast (before ++ r ∷ []) (updated m r)
lasts_more before m r h = record {
  layer = ap (newer r.layer) h.layer ∙ sym (last_more (λ (s : PackRecord). s.layer) before r);
  datatype = ap (newer r.datatype) h.datatype ∙ sym (last_more (λ (s : PackRecord). s.datatype) before r);
  width = ap (newer r.width) h.width ∙ sym (last_more (λ (s : PackRecord). s.width) before r);
  height = ap (newer r.height) h.height ∙ sym (last_more (λ (s : PackRecord). s.height) before r);
  x = place_more r.x (last_written (λ (s : PackRecord). s.x) before) m.x h.x ∙ ap
      (λ (o : Option ℤ). unwrap_or o (pos 0)) (sym (last_more (λ (s : PackRecord). s.x) before r));
  y = place_more r.y (last_written (λ (s : PackRecord). s.y) before) m.y h.y ∙ ap
      (λ (o : Option ℤ). unwrap_or o (pos 0)) (sym (last_more (λ (s : PackRecord). s.y) before r));
}

-- ---- the fields of the next record

is_there : {A : Type 0} (o : Option A) (v : A) → o ≡ Some v → IsSome o
is_there None v e = absurd (cc)
is_there (Some w) v e = refl

value_is : (o m : Option ℕ) (v : ℕ) → m ≡ o → m ≡ Some v → v ≡ unwrap_or o 0
value_is o m v e f = sym (ap (λ (p : Option ℕ). unwrap_or p 0) (sym e ∙ f))

pub shown_fields : (before : List PackRecord) (m : Modal) (r : PackRecord) (f : ShotFields)
    → AreLast (before ++ r ∷ []) m → IsShown m r f → f ≡ fields_in before r
shown_fields before m r f h s =
    same_fields f (fields_in before r) (value_is _ m.layer f.layer h.layer s.layer)
    (value_is _ m.datatype f.datatype h.datatype s.datatype) (value_is _ m.width f.width h.width s.width)
    (value_is _ m.height f.height h.height s.height) s.left s.right (s.x ∙ h.x) (s.y ∙ h.y)

pub shown_defined : (before : List PackRecord) (m : Modal) (r : PackRecord) (f : ShotFields) → AreLast (before ++ r ∷ []) m → IsShown m r f → IsDefined before r
shown_defined before m r f h s = record {
  layer = is_there _ f.layer (sym h.layer ∙ s.layer);
  datatype = is_there _ f.datatype (sym h.datatype ∙ s.datatype);
  width = is_there _ f.width (sym h.width ∙ s.width);
  height = is_there _ f.height (sym h.height ∙ s.height);
}

value_there : (o m : Option ℕ) → m ≡ o → IsSome o → m ≡ Some (unwrap_or o 0)
value_there None m e h = absurd (cc)
value_there (Some v) m e h = e

pub defined_shown : (before : List PackRecord) (m : Modal) (r : PackRecord) → AreLast (before ++ r ∷ []) m
    → IsDefined before r → IsShown m r (fields_in before r)
defined_shown before m r h d = record {
  layer = value_there _ m.layer h.layer d.layer;
  datatype = value_there _ m.datatype h.datatype d.datatype;
  width = value_there _ m.width h.width d.width;
  height = value_there _ m.height h.height d.height;
  left = refl;
  right = refl;
  x = sym h.x;
  y = sym h.y;
}
