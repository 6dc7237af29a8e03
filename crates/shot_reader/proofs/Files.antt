-- A shot file has no fault.
use Rattle.std.proofs.Common.{◌≡◌, ℕ, List, [], ◌++◌, length, take, drop, All, Option, None, Some, refl, sym, ap, ◌∙◌, arith, append_assoc, length-append}
use Rattle.std.specs.Prelude.{flat_map}
use Rattle.std.proofs.Math.Seq.{take-append_seam, drop-append_seam}
use Rattle.half_grid.specs.Trapezoids.{Trapezoid, IsShot}
use Rattle.layout_model.specs.declared.pair.Pair.{Pair}
use Rattle.oas_lex.specs.ShotLaws.{IsNarrowPair}
use Rattle.oas_lex.specs.ShotText.{IsUnit, head, end, spelling_of, shot_text}
use Rattle.shot_reader.specs.Reading.{IsFileOf, IsPairOf, AgreesWithPair}
use Rattle.shot_reader.specs.Refusals.{AreShotsReadUpTo, IsFirstShotFault}
use Rattle.shot_reader.specs.declared.refusing.ShotBad.{ShotBad}
use Rattle.shot_reader.proofs.Faults.{no_fault, one_read}
use Rattle.shot_reader.proofs.Rests.{text_parts}

-- what stands before END of a shot file
abbrev before : ℕ → ℕ → ℕ → List Trapezoid → List ℕ
before unit l d shots = head unit ++ flat_map (spelling_of l d) shots

before_end : (unit l d : ℕ) (shots : List Trapezoid) → shot_text unit l d shots ≡ before unit l d shots ++ end
before_end unit l d shots = text_parts unit l d shots ∙ sym (append_assoc (head unit) (flat_map (spelling_of l d) shots) end)

-- the bytes were read up to END: the unit, the pair and the shots that stand before it
pub record IsReadWhole (bytes : List ℕ) (unit : ℕ) (pair : Option Pair) (shots : List Trapezoid) : Type 0 where
  pub at : ℕ
  pub up : AreShotsReadUpTo bytes at pair
  pub unit_is : up.unit ≡ unit
  pub shots_are : up.shots ≡ shots
  pub rest : drop at bytes ≡ end

whole_of : (bytes : List ℕ) (unit l d : ℕ) (pair : Option Pair) (shots : List Trapezoid) → IsUnit unit
    → All IsShot shots → IsNarrowPair l d → IsPairOf pair shots → AgreesWithPair pair l d
    → bytes ≡ shot_text unit l d shots → IsReadWhole bytes unit pair shots
whole_of bytes unit l d pair shots u all p fits agrees e =
    let text : bytes ≡ before unit l d shots ++ end = e ∙ before_end unit l d shots in
    let at = length (before unit l d shots) in
    let first : take at bytes ≡ before unit l d shots = ap (take at) text ∙ take-append_seam (before unit l d shots) end in
    let ended : drop at bytes ≡ end = ap (drop at) text ∙ drop-append_seam (before unit l d shots) end in
    record {
      at = at;
      up = record {
        within = omega (arith, ap length text, length-append (before unit l d shots) end);
        unit = unit;
        unit_fits = u;
        shots = shots;
        legal = all;
        layer = l;
        datatype = d;
        narrow = p;
        pair_fits = fits;
        agrees = agrees;
        text = first;
      };
      unit_is = refl;
      shots_are = refl;
      rest = ended;
    }

-- a shot file is read up to its END
pub file_whole : (bytes : List ℕ) (unit : ℕ) (pair : Option Pair) (shots : List Trapezoid) → IsFileOf bytes unit pair shots → IsReadWhole bytes unit pair shots
unfolding shot_text
file_whole bytes unit None shots f =
    let none : shots ≡ [] = f.pair_fits in
    whole_of bytes unit 0 0 None shots f.unit_fits f.legal (record { layer_bits = omega (arith); datatype_bits = omega (arith) }) f.pair_fits tt
    (f.text ∙ rw none refl)
file_whole bytes unit (Some p) shots f =
    whole_of bytes unit p.layer p.datatype (Some p) shots f.unit_fits f.legal f.pair_fits.1 f.pair_fits (refl, refl)
    (f.text ∙ rw (← f.agrees.0, ← f.agrees.1) refl)

-- a shot file of this unit, this pair and these shots has no fault
pub file_right : (bytes : List ℕ) (unit : ℕ) (pair : Option Pair) (shots : List Trapezoid) (bad : ShotBad)
    → IsFileOf bytes unit pair shots → IsFirstShotFault bytes bad → ⊥
file_right bytes unit pair shots bad f fault =
    let w = file_whole bytes unit pair shots f in no_fault bytes w.at pair bad w.up w.rest fault

-- bytes are one shot file at most
pub one_file : (bytes : List ℕ) (u v : ℕ) (p q : Option Pair) (ys zs : List Trapezoid) → IsFileOf bytes u p ys
    → IsFileOf bytes v q zs → (u ≡ v) × (p ≡ q) × (ys ≡ zs)
one_file bytes u v p q ys zs f g =
    let a = file_whole bytes u p ys f in
    let b = file_whole bytes v q zs g in
    let same = one_read bytes a.at b.at p q a.up b.up a.rest b.rest in
    (sym a.unit_is ∙ (same.0 ∙ b.unit_is), same.1, sym a.shots_are ∙ (same.2 ∙ b.shots_are))
