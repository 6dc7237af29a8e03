-- The text of a shot file names its unit, its shots and their pair.
use Rattle.std.proofs.Common.{◌≡◌, ◌≢◌, ℕ, suc, ◌^◌, ◌<◌, List, [], ◌∷◌, ◌++◌, refl, arith, ap, sym, ◌∙◌, append_assoc}
use Rattle.std.specs.Prelude.{All, flat_map}
use Rattle.half_grid.specs.Trapezoids.{Trapezoid, IsShot}
use Rattle.oas_lex.specs.ShotText.{head, end, id_for, text_of, fields_of, spelling_of, shot_text}
use Rattle.oas_lex.specs.declared.fields.ShotFields.{ShotFields}
use Rattle.oas_lex.specs.ShotLaws.{IsNarrowPair}
use Rattle.oas_lex.proofs.ShotNames.{shot_names}
use Rattle.oas_lex.proofs.ShotBounds.{shot_narrow}
use Rattle.oas_lex.proofs.FieldTexts.{opened, text_opens, one_record, spelling_is}
use Rattle.oas_lex.proofs.Peels.{not_end, head_peel}

pub record_names : (l d m e : ℕ) (y z : Trapezoid) (after rest : List ℕ) → IsNarrowPair l d → IsNarrowPair m e → IsShot y → IsShot z
    → spelling_of l d y ++ after ≡ spelling_of m e z ++ rest → (l ≡ m) × (d ≡ e) × (y ≡ z) × (after ≡ rest)
record_names l d m e y z after rest p q h g equal =
    let whole : text_of (fields_of l d y) ++ after ≡ text_of (fields_of m e z) ++ rest = ap
    (λ (t : List ℕ). t ++ after) (sym (spelling_is l d y))
    ∙ (equal ∙ ap (λ (t : List ℕ). t ++ rest) (spelling_is m e z)) in
    let same = one_record (fields_of l d y) (fields_of m e z) after rest (shot_narrow l d y p h) (shot_narrow m e z q g) whole in
    let part = same.0 in (
      ap (λ (f : ShotFields). f.layer) part,
      ap (λ (f : ShotFields). f.datatype) part,
      shot_names y z h g (ap (λ (f : ShotFields). f.width) part) (ap (λ (f : ShotFields). f.height) part)
          (ap (λ (f : ShotFields). f.left_delta) part) (ap (λ (f : ShotFields). f.right_delta) part)
          (ap (λ (f : ShotFields). f.x) part) (ap (λ (f : ShotFields). f.y) part),
      same.1,
    )

-- what follows the head
abbrev body : ℕ → ℕ → List Trapezoid → List ℕ
body l d zs = flat_map (spelling_of l d) zs ++ end

one_more : (l d : ℕ) (z : Trapezoid) (zs : List Trapezoid) → body l d (z ∷ zs) ≡ spelling_of l d z ++ body l d zs
one_more l d z zs = append_assoc (spelling_of l d z) (flat_map (spelling_of l d) zs) end

-- END isn't a record
none_ends : (l d : ℕ) (z : Trapezoid) (zs : List Trapezoid) → end ≡ body l d (z ∷ zs) → ⊥
none_ends l d z zs e =
    let f = fields_of l d z in
    let whole : end ≡ id_for f.left_delta f.right_delta ∷ 123 ∷ opened f (body l d zs) =
    e ∙ (one_more l d z zs ∙ (ap (λ (t : List ℕ). t ++ body l d zs) (spelling_is l d z) ∙ text_opens f
    (body l d zs))) in
    let id : id_for f.left_delta f.right_delta ≡ 2 = cc in
    not_end f.left_delta f.right_delta id

body_names : (l d m e : ℕ) (ys zs : List Trapezoid) → IsNarrowPair l d → IsNarrowPair m e → All IsShot ys → All IsShot zs
    → body l d ys ≡ body m e zs → (ys ≡ zs) × (ys ≢ [] → (l ≡ m) × (d ≡ e))
body_names l d m e [] [] p q h g equal = (refl, λ some. absurd (some refl))
body_names l d m e [] (z ∷ zs) p q h g equal = absurd (none_ends m e z zs equal)
body_names l d m e (y ∷ ys) [] p q h g equal = absurd (none_ends l d y ys (sym equal))
body_names l d m e (y ∷ ys) (z ∷ zs) p q h g equal =
    let whole : spelling_of l d y ++ body l d ys ≡ spelling_of m e z ++ body m e zs = sym (one_more l d y ys) ∙ (equal ∙ one_more m e z zs) in
    let first = record_names l d m e y z (body l d ys) (body m e zs) p q (h 0 y (omega arith)) (g 0 z (omega arith)) whole in
    let others : All IsShot ys = λ k x below. h (suc k) x (omega arith) in
    let last : All IsShot zs = λ k x below. g (suc k) x (omega arith) in
    let rest = body_names l d m e ys zs p q others last first.3 in
    let shot : y ≡ z = first.2 in
    let shots : ys ≡ zs = rest.0 in
    (cc, λ some. (first.0, first.1))

text_is : (u l d : ℕ) (zs : List Trapezoid) → shot_text u l d zs ≡ head u ++ body l d zs
unfolding shot_text
text_is u l d zs = simp append_assoc

pub text_names : (u l d v m e : ℕ) (ys zs : List Trapezoid) → u < 2 ^ 63 → v < 2 ^ 63 → IsNarrowPair l d → IsNarrowPair m e → All IsShot ys → All IsShot zs
    → shot_text u l d ys ≡ shot_text v m e zs → (u ≡ v) × (ys ≡ zs) × (ys ≢ [] → (l ≡ m) × (d ≡ e))
text_names u l d v m e ys zs a b p q h g equal =
    let whole : head u ++ body l d ys ≡ head v ++ body m e zs = sym (text_is u l d ys) ∙ (equal ∙ text_is v m e zs) in
    let both = head_peel u v (body l d ys) (body m e zs) a b whole in
    let rest = body_names l d m e ys zs p q h g both.1 in
    (both.0, rest.0, rest.1)
