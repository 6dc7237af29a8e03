-- The packed text of shots stands for them.
use Rattle.std.proofs.Common.{◌≡◌, ℕ, zero, suc, ℤ, pos, ◌-◌, ◌<◌, ◌≤◌, ◌^◌, ◌-ℤ◌, unsigned_abs, Bool, true, false}
use Rattle.std.proofs.Common.{cond, nat_eq, nat_le, List, [], ◌∷◌, ◌++◌, map, take, drop, Option, Some, None, unwrap_or}
use Rattle.std.proofs.Common.{is_some, All, refl, arith, ap, sym, subst, ◌∙◌}
use Rattle.std.specs.Ordering.{int_eq}
use Rattle.std.proofs.lemmas.Int.{ints}
use Rattle.std.proofs.lemmas.Bool.Decides.{Decides-eqb, Decides-int_eq}
use Rattle.std.proofs.lemmas.List.{take-append-drop}
use Rattle.std.proofs.lemmas.List.Elements.{All-cons}
use Rattle.half_grid.specs.Trapezoids.{Trapezoid, IsShot}
use Rattle.oas_lex.specs.ShotText.{fields_of}
use Rattle.oas_lex.specs.declared.fields.ShotFields.{ShotFields}
use Rattle.oas_lex.proofs.ForCallers.{same_fields}
use Rattle.shot_reader.specs.Near.{AreNear}
use Rattle.shot_reader.proofs.ForCallers.{own_near}
use Rattle.shot_repeat.specs.Packed.{HasFew}
use Rattle.shot_repeat.specs.Packer.{run_length, repetition_of, records_of, packed_records, packed_text}
use Rattle.shot_repeat.specs.Packing.{changed, changed_place, packed_record}
use Rattle.shot_repeat.specs.PackingLaws.{TextStands, TextIsFile}
use Rattle.shot_repeat.specs.Records.{IsNarrowRepetition, IsNarrow, IsNarrowNumber, IsNarrowPlace}
use Rattle.shot_repeat.specs.Values.{newer, last_written, IsDefined, fields_in, shot_count, step_of, moved_from, given, all_given, AreDefined}
use Rattle.shot_repeat.specs.declared.record.PackRecord.{PackRecord}
use Rattle.shot_repeat.specs.declared.record.Repetition.{Repetition}
use Rattle.shot_repeat.proofs.Gifts.{some_given}
use Rattle.shot_repeat.proofs.Lasts.{last_more}
use Rattle.shot_repeat.proofs.Followers.{AreOf, are_of, stands, run_few}

-- ---- values

-- the last values are those of the last shot that was written
record HasValues (before : List PackRecord) (f : ShotFields) : Type 0 where
  layer : last_written (λ (s : PackRecord). s.layer) before ≡ Some f.layer
  datatype : last_written (λ (s : PackRecord). s.datatype) before ≡ Some f.datatype
  width : last_written (λ (s : PackRecord). s.width) before ≡ Some f.width
  height : last_written (λ (s : PackRecord). s.height) before ≡ Some f.height
  x : unwrap_or (last_written (λ (s : PackRecord). s.x) before) (pos 0) ≡ f.x
  y : unwrap_or (last_written (λ (s : PackRecord). s.y) before) (pos 0) ≡ f.y

changed_is : (old now : ℕ) (o : Option ℕ) → o ≡ Some old → newer (changed old now) o ≡ Some now
changed_is old now o e = by_test (nat_eq old now) refl
  where
    by_test : (p : Bool) → p ≡ nat_eq old now → newer (cond p None (Some now)) o ≡ Some now
    by_test true t = e ∙ ap Some ((Decides-eqb old now).0 (sym t))
    by_test false t = refl

place_is : (old now : ℤ) (o : Option ℤ) → unwrap_or o (pos 0) ≡ old → unwrap_or (newer (changed_place old now) o) (pos 0) ≡ now
place_is old now o e = by_test (int_eq old now) refl
  where
    by_test : (p : Bool) → p ≡ int_eq old now → unwrap_or (newer (cond p None (Some now)) o) (pos 0) ≡ now
    by_test true t = e ∙ (Decides-int_eq old now).0 (sym t)
    by_test false t = refl

place_first : (now : ℤ) → unwrap_or (changed_place (pos 0) now) (pos 0) ≡ now
place_first now = by_test (int_eq (pos 0) now) refl
  where
    by_test : (p : Bool) → p ≡ int_eq (pos 0) now → unwrap_or (cond p None (Some now)) (pos 0) ≡ now
    by_test true t = (Decides-int_eq (pos 0) now).0 (sym t)
    by_test false t = refl

-- what the record before leaves
abbrev Matches : List PackRecord → Option ShotFields → Type 0
Matches before None = before ≡ []
Matches before (Some e) = HasValues before e

first_values : (f : ShotFields) (o : Option Repetition) → HasValues (packed_record None f o ∷ []) f
first_values f o = record {
  layer = refl;
  datatype = refl;
  width = refl;
  height = refl;
  x = place_first f.x;
  y = place_first f.y;
}

next_values : (before : List PackRecord) (e f : ShotFields) (o : Option Repetition) → HasValues before e
    → e.layer ≡ f.layer → e.datatype ≡ f.datatype → HasValues (before ++ packed_record (Some e) f o ∷ []) f
next_values before e f o h l d =
    let r = packed_record (Some e) f o in
    record {
      layer = last_more (λ (s : PackRecord). s.layer) before r ∙ (h.layer ∙ ap Some l);
      datatype = last_more (λ (s : PackRecord). s.datatype) before r ∙ (h.datatype ∙ ap Some d);
      width = last_more (λ (s : PackRecord). s.width) before r ∙ changed_is e.width f.width (last_written (λ (s : PackRecord). s.width) before) h.width;
      height = last_more (λ (s : PackRecord). s.height) before r ∙ changed_is e.height f.height (last_written (λ (s : PackRecord). s.height) before) h.height;
      x = ap (λ (p : Option ℤ). unwrap_or p (pos 0)) (last_more (λ (s : PackRecord). s.x) before r) ∙ place_is e.x f.x
          (last_written (λ (s : PackRecord). s.x) before) h.x;
      y = ap (λ (p : Option ℤ). unwrap_or p (pos 0)) (last_more (λ (s : PackRecord). s.y) before r) ∙ place_is e.y f.y
          (last_written (λ (s : PackRecord). s.y) before) h.y;
    }

abbrev IsOf : ℕ → ℕ → Option ShotFields → Type 0
IsOf l d None = Unit {0}
IsOf l d (Some e) = (e.layer ≡ l) × (e.datatype ≡ d)

values_more : (before : List PackRecord) (last : Option ShotFields) (f : ShotFields) (o : Option Repetition) (l d : ℕ)
    → Matches before last → IsOf l d last → f.layer ≡ l → f.datatype ≡ d
    → HasValues (before ++ packed_record last f o ∷ []) f
values_more before None f o l d h p e g = subst (λ (b : List PackRecord). HasValues (b ++ packed_record None f o ∷ []) f) (sym h) (first_values f o)
values_more before (Some last) f o l d h p e g = next_values before last f o h (p.0 ∙ sym e) (p.1 ∙ sym g)

some_is : (o : Option ℕ) (v : ℕ) → o ≡ Some v → unwrap_or o 0 ≡ v
some_is o v e = ap (λ (p : Option ℕ). unwrap_or p 0) e

record_deltas : (last : Option ShotFields) (f : ShotFields) (o : Option Repetition)
    → ((packed_record last f o).left_delta ≡ f.left_delta) × ((packed_record last f o).right_delta ≡ f.right_delta)
    × ((packed_record last f o).repetition ≡ o)
record_deltas None f o = (refl, refl, refl)
record_deltas (Some e) f o = (refl, refl, refl)

values_fields : (before : List PackRecord) (r : PackRecord) (f : ShotFields) → HasValues (before ++ r ∷ []) f
    → r.left_delta ≡ f.left_delta → r.right_delta ≡ f.right_delta → fields_in before r ≡ f
values_fields before r f h l m =
    same_fields (fields_in before r) f (some_is _ f.layer h.layer) (some_is _ f.datatype h.datatype)
    (some_is _ f.width h.width) (some_is _ f.height h.height) l m h.x h.y

is_there : (o : Option ℕ) (v : ℕ) → o ≡ Some v → is_some o ≡ true
is_there None v e = absurd (cc)
is_there (Some w) v e = refl

values_defined : (before : List PackRecord) (r : PackRecord) (f : ShotFields) → HasValues (before ++ r ∷ []) f → IsDefined before r
values_defined before r f h = record {
  layer = is_there _ f.layer h.layer;
  datatype = is_there _ f.datatype h.datatype;
  width = is_there _ f.width h.width;
  height = is_there _ f.height h.height;
}

-- ---- the shots

given_is : (before : List PackRecord) (r : PackRecord) (f : ShotFields) (o : Option Repetition) (gs : List ShotFields)
    → fields_in before r ≡ f → r.repetition ≡ o → moved_from f (step_of o) 0 (shot_count o) ≡ gs → given before r ≡ gs
given_is before r f o gs e g h =
    ap (λ (p : Option Repetition). moved_from (fields_in before r) (step_of p) 0 (shot_count p)) g
    ∙ (ap (λ (k : ShotFields). moved_from k (step_of o) 0 (shot_count o)) e ∙ h)

taken : {X : Type 0} (x : X) (xs : List X) (n : ℕ) → 1 ≤ n → take n (x ∷ xs) ++ drop (n - 1) xs ≡ x ∷ xs
taken x xs zero h = absurd (omega arith)
taken x xs (suc n) h =
    let one : suc n - 1 ≡ n = omega arith in
    ap (λ (k : ℕ). x ∷ take n xs ++ drop k xs) one ∙ ap (λ (t : List _). x ∷ t) (take-append-drop n xs)

-- what the records of shots say
record Says (before : List PackRecord) (records : List PackRecord) (fs : List ShotFields) : Type 0 where
  defined : AreDefined before records
  shots : all_given before records ≡ fs

says : (l d : ℕ) (before : List PackRecord) (last : Option ShotFields) (skip : ℕ) (fs : List ShotFields)
    → Matches before last → IsOf l d last → AreOf l d fs → Says before (records_of last skip fs) (drop skip fs)
says l d before last zero [] h p g = record { defined = tt; shots = refl }
says l d before last (suc skip) [] h p g = record { defined = tt; shots = refl }
says l d before last (suc skip) (f ∷ fs) h p g = says l d before last skip fs h p g.2
says l d before last zero (f ∷ fs) h p g =
    let o = repetition_of (f ∷ fs) in
    let r = packed_record last f o in
    let deltas = record_deltas last f o in
    let values = values_more before last f o l d h p g.0 g.1 in
    let fields = values_fields before r f values deltas.0 deltas.1 in
    let own = given_is before r f o (take (shot_count o) (f ∷ fs)) fields deltas.2 (stands l d f fs g).given in
    let rest = says l d (before ++ r ∷ []) (Some f) (shot_count o - 1) fs values (g.0, g.1) g.2 in
    record {
      defined = (values_defined before r f values, rest.defined);
      shots = ap (λ (t : List ShotFields). t ++ all_given (before ++ r ∷ []) (records_of (Some f) (shot_count o - 1) fs)) own
          ∙ (ap (λ (t : List ShotFields). take (shot_count o) (f ∷ fs) ++ t) rest.shots ∙ taken f fs (shot_count o) (some_given o));
    }

-- ---- each record is narrow, and gives few enough shots

abbrev pub AllNear : List ShotFields → Type 0
AllNear [] = Unit {0}
AllNear (f ∷ fs) = AreNear f × AllNear fs

pub all_near : (l d : ℕ) (shots : List Trapezoid) → All IsShot shots → AllNear (map (fields_of l d) shots)
all_near l d [] h = tt
all_near l d (z ∷ shots) h = (own_near l d z (h 0 z (omega arith)), all_near l d shots (λ k x below. h (suc k) x (omega arith)))

near_step : (a b : ℤ) → unsigned_abs a ≤ 2 ^ 46 → unsigned_abs b ≤ 2 ^ 46 → unsigned_abs (b -ℤ a) < 2 ^ 61
near_step a b h g = omega (arith, ints)

pub narrow_repetition : (fs : List ShotFields) → AllNear fs → IsNarrowRepetition (repetition_of fs)
narrow_repetition [] h = tt
narrow_repetition (a ∷ []) h = tt
narrow_repetition (a ∷ b ∷ rest) h = by_test (nat_le 3 (run_length (a ∷ b ∷ rest)))
  where
    by_test : (p : Bool) → IsNarrowRepetition (cond p (Some (record { more = run_length (a ∷ b ∷ rest) - 2; x = b.x -ℤ a.x; y = b.y -ℤ a.y })) None)
    by_test true = (omega (arith, run_few (a ∷ b ∷ rest)), near_step a.x b.x h.0.x h.1.0.x, below (near_step a.y b.y h.0.y h.1.0.y))
      where
        below : {n : ℕ} → n < 2 ^ 61 → n < 2 ^ 62
        below {n} h = omega arith
    by_test false = tt

narrow_changed : (old now : ℕ) → now ≤ 2 ^ 46 → IsNarrowNumber (changed old now)
narrow_changed old now h = by_test (nat_eq old now)
  where
    by_test : (p : Bool) → IsNarrowNumber (cond p None (Some now))
    by_test true = tt
    by_test false = omega (arith, h)

narrow_place : (old now : ℤ) → unsigned_abs now ≤ 2 ^ 46 → IsNarrowPlace (changed_place old now)
narrow_place old now h = by_test (int_eq old now)
  where
    by_test : (p : Bool) → IsNarrowPlace (cond p None (Some now))
    by_test true = tt
    by_test false = omega (arith, h)

narrow_record : (last : Option ShotFields) (f : ShotFields) (o : Option Repetition) → AreNear f → f.layer < 2 ^ 63
    → f.datatype < 2 ^ 63 → IsNarrowRepetition o → IsNarrow (packed_record last f o)
narrow_record None f o h l d r = record {
  layer = l;
  datatype = d;
  width = omega (arith, h.width);
  height = omega (arith, h.height);
  left = omega (arith, h.left);
  right = omega (arith, h.right);
  x = narrow_place (pos 0) f.x h.x;
  y = narrow_place (pos 0) f.y h.y;
  repetition = r;
}
narrow_record (Some e) f o h l d r = record {
  layer = tt;
  datatype = tt;
  width = narrow_changed e.width f.width h.width;
  height = narrow_changed e.height f.height h.height;
  left = omega (arith, h.left);
  right = omega (arith, h.right);
  x = narrow_place e.x f.x h.x;
  y = narrow_place e.y f.y h.y;
  repetition = r;
}

narrow_records : (l d : ℕ) (last : Option ShotFields) (skip : ℕ) (fs : List ShotFields) → l < 2 ^ 63 → d < 2 ^ 63
    → AllNear fs → AreOf l d fs → All IsNarrow (records_of last skip fs)
narrow_records l d last zero [] p q h g = λ k x below. absurd (omega arith)
narrow_records l d last (suc skip) [] p q h g = λ k x below. absurd (omega arith)
narrow_records l d last (suc skip) (f ∷ fs) p q h g = narrow_records l d last skip fs p q h.1 g.2
narrow_records l d last zero (f ∷ fs) p q h g =
    All-cons IsNarrow (packed_record last f (repetition_of (f ∷ fs))) (records_of (Some f) (shot_count (repetition_of (f ∷ fs)) - 1) fs)
    (narrow_record last f (repetition_of (f ∷ fs)) h.0 (omega (arith, g.0, p)) (omega (arith, g.1, q)) (narrow_repetition (f ∷ fs) h))
    (narrow_records l d (Some f) (shot_count (repetition_of (f ∷ fs)) - 1) fs p q h.1 g.2)

few_record : (last : Option ShotFields) (f : ShotFields) (o : Option Repetition) → shot_count o ≤ 16777216 → HasFew (packed_record last f o)
few_record None f o h = h
few_record (Some e) f o h = h

few_records : (l d : ℕ) (last : Option ShotFields) (skip : ℕ) (fs : List ShotFields) → AreOf l d fs → All HasFew (records_of last skip fs)
few_records l d last zero [] g = λ k x below. absurd (omega arith)
few_records l d last (suc skip) [] g = λ k x below. absurd (omega arith)
few_records l d last (suc skip) (f ∷ fs) g = few_records l d last skip fs g.2
few_records l d last zero (f ∷ fs) g =
    All-cons HasFew (packed_record last f (repetition_of (f ∷ fs))) (records_of (Some f) (shot_count (repetition_of (f ∷ fs)) - 1) fs)
    (few_record last f (repetition_of (f ∷ fs)) (stands l d f fs g).few)
    (few_records l d (Some f) (shot_count (repetition_of (f ∷ fs)) - 1) fs g.2)

-- ---- the text

pub text_stands : TextStands
unfolding packed_text
text_stands unit l d pair shots u n legal fits agrees =
    let fs = map (fields_of l d) shots in
    let s = says l d [] None 0 fs refl tt (are_of l d shots) in
    record {
      unit_fits = u;
      legal = legal;
      pair_fits = fits;
      layer = l;
      datatype = d;
      agrees = agrees;
      records = packed_records l d shots;
      narrow = narrow_records l d None 0 fs n.layer_bits n.datatype_bits (all_near l d shots legal) (are_of l d shots);
      defined = s.defined;
      shots_given = sym s.shots;
      text = refl;
    }

pub text_is_file : TextIsFile
unfolding text_stands
text_is_file unit l d pair shots u n legal fits agrees few = record {
  stands = text_stands unit l d pair shots u n legal fits agrees;
  few_each = few_records l d None 0 (map (fields_of l d) shots) (are_of l d shots);
  few = few;
}
