-- How far the reading of a file has come.
use Rattle.std.proofs.Common.{◌≡◌, ◌≢◌, ℕ, suc, ◌<◌, ◌≤◌, ◌^◌, length, take, drop, Option, Some, None, List, [], ◌∷◌}
use Rattle.std.proofs.Common.{◌++◌, append_assoc, refl, arith, ap, sym, ◌∙◌}
use Rattle.std.proofs.lemmas.List.{flat_map_more, append_cancel_right, take-append-drop}
use Rattle.std.proofs.lemmas.List.Elements.{All-cons}
use Rattle.std.specs.Prelude.{All, flat_map}
use Rattle.half_grid.specs.Trapezoids.{Trapezoid, IsShot}
use Rattle.layout_model.specs.declared.pair.Pair.{Pair}
use Rattle.oas_lex.specs.ShotText.{IsUnit, head, spelling_of, shot_text, end}
use Rattle.oas_lex.specs.ShotLaws.{IsNarrowPair}
use Rattle.shot_reader.specs.Refusals.{AreShotsReadUpTo}
use Rattle.shot_reader.specs.Reading.{AgreesWithPair, IsPairOf, IsFileOf, records_with}

pub unit_small : (u : ℕ) → IsUnit u → u < 2 ^ 63
unit_small u h = omega (arith, h.few)

pub text_parts : (u l d : ℕ) (zs : List Trapezoid) → shot_text u l d zs ≡ head u ++ (flat_map (spelling_of l d) zs ++ end)
unfolding shot_text
text_parts u l d zs = simp append_assoc

pub found_next : (pair : Option Pair) (l d : ℕ) (shots : List Trapezoid) (z : Trapezoid) (bytes rest after : List ℕ) → IsPairOf pair shots → AgreesWithPair pair l d
    → bytes ≡ records_with pair shots ++ rest → rest ≡ spelling_of l d z ++ after → bytes ≡ flat_map (spelling_of l d) (shots ++ z ∷ []) ++ after
found_next None l d shots z bytes rest after h g e f =
    e ∙ (f ∙ (sym (append_assoc (spelling_of l d z) [] after) ∙ ap
    (λ (zs : List Trapezoid). flat_map (spelling_of l d) (zs ++ z ∷ []) ++ after) (sym h)))
found_next (Some p) l d shots z bytes rest after h g e f =
    let one : bytes ≡ flat_map (spelling_of l d) shots ++ (spelling_of l d z ++ after) = rw (g.0, g.1) at
    (e ∙ ap (λ (t : List ℕ). records_with (Some p) shots ++ t) f) in
    one ∙ (sym (append_assoc (flat_map (spelling_of l d) shots) (spelling_of l d z) after) ∙ ap
    (λ (t : List ℕ). t ++ after) (flat_map_more (spelling_of l d) [] shots z))

pub not_nil : (shots : List Trapezoid) (z : Trapezoid) → shots ++ z ∷ [] ≢ []
not_nil [] z e = absurd (cc)
not_nil (x ∷ shots) z e = absurd (cc)

pub file_of : (bytes rest last : List ℕ) (unit : ℕ) (pair : Option Pair) (shots : List Trapezoid) → IsUnit unit
    → bytes ≡ head unit ++ rest → All IsShot shots → IsPairOf pair shots
    → rest ≡ records_with pair shots ++ last → last ≡ end → IsFileOf bytes unit pair shots
file_of bytes rest last unit None shots u e all h f g = record {
  unit_fits = u;
  legal = all;
  pair_fits = h;
  layer = 0;
  datatype = 0;
  agrees = tt;
  text = e ∙ (ap (λ (t : List ℕ). head unit ++ t)
      (f ∙ (g ∙ ap (λ (zs : List Trapezoid). flat_map (spelling_of 0 0) zs ++ end) (sym h))) ∙ sym
      (text_parts unit 0 0 shots));
}
file_of bytes rest last unit (Some p) shots u e all h f g = record {
  unit_fits = u;
  legal = all;
  pair_fits = h;
  layer = p.layer;
  datatype = p.datatype;
  agrees = (refl, refl);
  text = e ∙ (ap (λ (t : List ℕ). head unit ++ t)
      (f ∙ ap (λ (t : List ℕ). flat_map (spelling_of p.layer p.datatype) shots ++ t) g) ∙ sym
      (text_parts unit p.layer p.datatype shots));
}

-- ---- how far a file was read

abbrev pub layer_of : Option Pair → ℕ
layer_of None = 0
layer_of (Some p) = p.layer

abbrev pub datatype_of : Option Pair → ℕ
datatype_of None = 0
datatype_of (Some p) = p.datatype

pub own_narrow : (pair : Option Pair) (shots : List Trapezoid) → IsPairOf pair shots → IsNarrowPair (layer_of pair) (datatype_of pair)
own_narrow None shots h = record { layer_bits = omega arith; datatype_bits = omega arith }
own_narrow (Some p) shots h = h.1

pub own_agrees : (pair : Option Pair) → AgreesWithPair pair (layer_of pair) (datatype_of pair)
own_agrees None = tt
own_agrees (Some p) = (refl, refl)

own_records : (pair : Option Pair) (shots : List Trapezoid) → IsPairOf pair shots
    → records_with pair shots ≡ flat_map (spelling_of (layer_of pair) (datatype_of pair)) shots
own_records None shots h = sym (ap (λ (zs : List Trapezoid). flat_map (spelling_of 0 0) zs) h)
own_records (Some p) shots h = refl

pub own_text : (bytes : List ℕ) (from at unit : ℕ) (pair : Option Pair) (shots : List Trapezoid)
    → bytes ≡ head unit ++ drop from bytes → IsPairOf pair shots
    → drop from bytes ≡ records_with pair shots ++ drop at bytes
    → take at bytes ≡ head unit ++ flat_map (spelling_of (layer_of pair) (datatype_of pair)) shots
own_text bytes from at unit pair shots e h f =
    append_cancel_right (take at bytes) (head unit ++ flat_map (spelling_of (layer_of pair) (datatype_of pair)) shots) (drop at bytes)
    (take-append-drop at bytes
    ∙ (e ∙ (ap (λ (t : List ℕ). head unit ++ t)
    (f ∙ ap (λ (t : List ℕ). t ++ drop at bytes) (own_records pair shots h)) ∙ sym
    (append_assoc (head unit) (flat_map (spelling_of (layer_of pair) (datatype_of pair)) shots) (drop at bytes)))))

abbrev pub up_to : (bytes : List ℕ) (from at unit : ℕ) (pair : Option Pair) (shots : List Trapezoid) → IsUnit unit
    → at ≤ length bytes → bytes ≡ head unit ++ drop from bytes → IsPairOf pair shots → All IsShot shots
    → drop from bytes ≡ records_with pair shots ++ drop at bytes
    → AreShotsReadUpTo bytes at pair
up_to bytes from at unit pair shots u within e h all f = record {
  within = within;
  unit = unit;
  unit_fits = u;
  shots = shots;
  legal = all;
  layer = layer_of pair;
  datatype = datatype_of pair;
  narrow = own_narrow pair shots h;
  pair_fits = h;
  agrees = own_agrees pair;
  text = own_text bytes from at unit pair shots e h f;
}

pub all_more : (zs : List Trapezoid) (z : Trapezoid) → All IsShot zs → IsShot z → All IsShot (zs ++ z ∷ [])
all_more [] z h g = All-cons IsShot z [] g (λ k d below. absurd (omega arith))
all_more (y ∷ zs) z h g = All-cons IsShot y (zs ++ z ∷ []) (h 0 y (omega arith)) (all_more zs z (λ k d below. h (suc k) d (omega arith)) g)
