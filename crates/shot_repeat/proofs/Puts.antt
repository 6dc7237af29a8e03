-- The shots that a record gives, put one by one.
use Rattle.std.proofs.Common.{◌≡◌, ℕ, suc, ◌-◌, ◌<◌, ◌≤◌, List, [], ◌∷◌, ◌++◌, map, All, arith, ap, sym, subst, ◌∙◌, append_assoc}
use Rattle.std.proofs.lemmas.List.{append-nil, map-append}
use Rattle.half_grid.specs.Trapezoids.{Trapezoid, IsShot}
use Rattle.half_grid.specs.declared.plane.Point.{Point}
use Rattle.oas_lex.specs.ShotText.{fields_of}
use Rattle.oas_lex.specs.declared.fields.ShotFields.{ShotFields}
use Rattle.shot_reader.specs.Fields.{HasShape}
use Rattle.shot_reader.proofs.ForCallers.{all_more}
use Rattle.shot_repeat.specs.Giving.{IsGivenBy}
use Rattle.shot_repeat.specs.Values.{moved, moved_from}
use Rattle.shot_repeat.proofs.Gifts.{halves, all_rest}

-- so many of the shots were put, and the others are left
pub record PutSoFar (f : ShotFields) (step : Point) (done count : ℕ) (before now : List Trapezoid) : Type 0 where
  pub given : List Trapezoid
  pub put : now ≡ before ++ given
  pub legal : All IsShot given
  pub left : map (fields_of f.layer f.datatype) given ++ moved_from f step done (count - done) ≡ moved_from f step 0 count

pub none_put : (f : ShotFields) (step : Point) (count : ℕ) (before : List Trapezoid) → PutSoFar f step 0 count before before
none_put f step count before = record {
  given = [];
  put = sym (append-nil before);
  legal = λ k d below. absurd (omega arith);
  left = ap (moved_from f step 0) (omega arith);
}

one_less : (f : ShotFields) (step : Point) (done count : ℕ) → done < count
    → moved_from f step done (count - done) ≡ moved f step done ∷ moved_from f step (suc done) (count - suc done)
one_less f step done count h = ap (moved_from f step done) (less done count h)
  where
    less : (done count : ℕ) → done < count → count - done ≡ suc (count - suc done)
    less done count h = omega (arith, h)

shape_is : (f next : ShotFields) (step : Point) (done : ℕ) (z : Trapezoid) → next ≡ moved f step done → HasShape next z
    → fields_of f.layer f.datatype z ≡ moved f step done
shape_is f next step done z e s =
    let same : HasShape (moved f step done) z = subst (λ (g : ShotFields). HasShape g z) e s in sym same

pub one_put : (f next : ShotFields) (step : Point) (done count : ℕ) (before now later : List Trapezoid) (z : Trapezoid)
    → done < count → PutSoFar f step done count before now
    → next ≡ moved f step done → IsShot z → HasShape next z → later ≡ now ++ z ∷ [] → PutSoFar f step (suc done) count before later
one_put f next step done count before now later z h p e shot s l =
    let own = fields_of f.layer f.datatype in
    record {
      given = p.given ++ z ∷ [];
      put = l ∙ (ap (λ (t : List Trapezoid). t ++ z ∷ []) p.put ∙ append_assoc before p.given (z ∷ []));
      legal = all_more p.given z p.legal shot;
      left =
          ap (λ (t : List ShotFields). t ++ moved_from f step (suc done) (count - suc done)) (map-append own p.given (z ∷ []))
          ∙ (append_assoc (map own p.given) (own z ∷ []) (moved_from f step (suc done) (count - suc done))
          ∙ (ap (λ (g : ShotFields). map own p.given ++ g ∷ moved_from f step (suc done) (count - suc done)) (shape_is f next step done z e s)
          ∙ (ap (λ (t : List ShotFields). map own p.given ++ t) (sym (one_less f step done count h)) ∙ p.left)));
    }

pub all_put : (f : ShotFields) (step : Point) (done count : ℕ) (before now : List Trapezoid) → count ≤ done
    → PutSoFar f step done count before now → (given : List Trapezoid) × (now ≡ before ++ given)
    × IsGivenBy f step count given
all_put f step done count before now h p =
    let none : count - done ≡ 0 = omega (arith, h) in
    let own = fields_of f.layer f.datatype in (
      p.given,
      p.put,
      record {
        legal = p.legal;
        are = sym (append-nil (map own p.given))
            ∙ (ap (λ (n : ℕ). map own p.given ++ moved_from f step done n) (sym none) ∙ p.left);
      },
    )

cons_shape : (own : Trapezoid → ShotFields) (zs : List Trapezoid) (g : ShotFields) (gs : List ShotFields)
    → map own zs ≡ g ∷ gs → All IsShot zs → (z : Trapezoid) × (own z ≡ g) × IsShot z
cons_shape own [] g gs e h = absurd (cc)
cons_shape own (z ∷ zs) g gs e h = (z, cc, h 0 z (omega arith))

-- where the next one is no shot, the record gives no list of shots
pub none_given : (f next : ShotFields) (step : Point) (done count : ℕ) (before now : List Trapezoid) → done < count
    → PutSoFar f step done count before now → next ≡ moved f step done
    → ((z : Trapezoid) → IsShot z → HasShape next z → ⊥) → (given : List Trapezoid) → IsGivenBy f step count given → ⊥
none_given f next step done count before now h p e none given g =
    let own = fields_of f.layer f.datatype in
    let rest = moved_from f step (suc done) (count - suc done) in
    let whole : map own given ≡ map own p.given ++ (moved f step done ∷ rest) =
    g.are ∙ (sym p.left ∙ ap (λ (t : List ShotFields). map own p.given ++ t) (one_less f step done count h)) in
    let two = halves own given (map own p.given) (moved f step done ∷ rest) whole in
    let legal = all_rest IsShot two.front two.rest (subst (λ (t : List Trapezoid). All IsShot t) two.split g.legal) in
    let one = cons_shape own two.rest (moved f step done) rest two.rests legal in
    none one.0 one.2 (subst (λ (k : ShotFields). HasShape k one.0) (sym e) (sym one.1))
