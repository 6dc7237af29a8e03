-- Bytes have one first fault at most, and a shot file has none.
use Rattle.std.proofs.Common.{◌≡◌, ◌≢◌, ◌⊎◌, ℕ, suc, ◌≤◌, Option, Some, None, List, [], ◌∷◌, ◌++◌, length, take, drop}
use Rattle.std.proofs.Common.{get_or, append_assoc, refl, arith, ap, sym, subst, ◌∙◌, inl, inr}
use Rattle.std.proofs.lemmas.List.{take-append-drop, length-drop, length-append}
use Rattle.std.proofs.Math.Seq.{take-append_seam, drop-append_seam}
use Rattle.std.specs.Prelude.{All, flat_map, Result, Err}
use Rattle.std.specs.List.{concat}
use Rattle.geo_stream.specs.declared.refusal.Refusal.{Refusal}
use Rattle.geo_stream.specs.declared.refusal.Refusal.TheVariants.{Fault, NoMemory}
use Rattle.half_grid.specs.Trapezoids.{Trapezoid, IsShot}
use Rattle.layout_model.specs.declared.pair.Pair.{Pair}
use Rattle.oas_lex.specs.ShotText.{IsUnit, head, fields_of, spelling_of, shot_text, end}
use Rattle.oas_lex.specs.ShotLaws.{IsNarrowPair}
use Rattle.oas_lex.proofs.ForCallers.{head_peel, record_names, spelling_is, one_record, shot_narrow}
use Rattle.oas_lex.specs.declared.fields.ShotFields.{ShotFields}
use Rattle.shot_reader.specs.declared.refusing.ShotBad.{ShotBad}
use Rattle.shot_reader.specs.declared.refusing.ShotBad.TheVariants as faults
use Rattle.shot_reader.specs.Fields.{HasShape}
use Rattle.shot_reader.specs.Reading.{AgreesWithPair, IsPairOf, records_with}
use Rattle.shot_reader.specs.Refusals.{IsWholeShotRecord, IsShotSpelled, BeginsEnd, IsShotRecordFault, AreShotsReadUpTo, IsFirstShotFault}
use Rattle.shot_reader.proofs.Ends.{whole_not_end}
use Rattle.shot_reader.proofs.Wholes.{text_whole}
use Rattle.shot_reader.proofs.Rests.{unit_small, up_to}

-- ---- at one record

spelled_whole : (first : Option Pair) (rest : List ℕ) (f : ShotFields) → IsShotSpelled first rest f → IsWholeShotRecord rest
spelled_whole first rest f s = text_whole f rest s.after s.narrow s.text

whole_apart : (rest : List ℕ) → IsWholeShotRecord rest → BeginsEnd rest → ⊥
whole_apart rest w e = whole_not_end rest e.0 w e.1

pub record_one : (first : Option Pair) (rest : List ℕ) (at : ℕ) (bad other : ShotBad) → IsShotRecordFault first rest at bad
    → IsShotRecordFault first rest at other → bad ≡ other
record_one first rest at bad other (inl a) (inl b) = a.0 ∙ sym b.0
record_one first rest at bad other (inl a) (inr (inl b)) = absurd (b.1 a.1)
record_one first rest at bad other (inl a) (inr (inr (inl b))) = absurd (whole_apart rest b.1 a.1)
record_one first rest at bad other (inl a) (inr (inr (inr b))) = absurd (whole_apart rest (spelled_whole first rest b.1.0 b.1.1) a.1)
record_one first rest at bad other (inr (inl a)) (inl b) = absurd (a.1 b.1)
record_one first rest at bad other (inr (inl a)) (inr (inl b)) = a.0 ∙ sym b.0
record_one first rest at bad other (inr (inl a)) (inr (inr (inl b))) = absurd (a.2 b.1)
record_one first rest at bad other (inr (inl a)) (inr (inr (inr b))) = absurd (a.2 (spelled_whole first rest b.1.0 b.1.1))
record_one first rest at bad other (inr (inr (inl a))) (inl b) = absurd (whole_apart rest a.1 b.1)
record_one first rest at bad other (inr (inr (inl a))) (inr (inl b)) = absurd (b.2 a.1)
record_one first rest at bad other (inr (inr (inl a))) (inr (inr (inl b))) = a.0 ∙ sym b.0
record_one first rest at bad other (inr (inr (inl a))) (inr (inr (inr b))) = absurd (a.2 b.1.0 b.1.1)
record_one first rest at bad other (inr (inr (inr a))) (inl b) = absurd (whole_apart rest (spelled_whole first rest a.1.0 a.1.1) b.1)
record_one first rest at bad other (inr (inr (inr a))) (inr (inl b)) = absurd (b.2 (spelled_whole first rest a.1.0 a.1.1))
record_one first rest at bad other (inr (inr (inr a))) (inr (inr (inl b))) = absurd (b.2 a.1.0 a.1.1)
record_one first rest at bad other (inr (inr (inr a))) (inr (inr (inr b))) = a.0 ∙ sym b.0

-- ---- where the records end

-- no record of a shot with this pair begins here
abbrev pub Stops : ℕ → ℕ → List ℕ → Type 0
Stops l d rest = (z : Trapezoid) (after : List ℕ) → IsShot z → rest ≡ spelling_of l d z ++ after → ⊥

-- a shot's record is spelled, and by its fields alone
shot_spelled : (first : Option Pair) (l d : ℕ) (z : Trapezoid) (rest after : List ℕ) → IsNarrowPair l d → IsShot z
    → AgreesWithPair first l d → rest ≡ spelling_of l d z ++ after → IsShotSpelled first rest (fields_of l d z)
shot_spelled first l d z rest after p h g e = record {
  narrow = shot_narrow l d z p h;
  agrees = g;
  after = after;
  text = e ∙ ap (λ (t : List ℕ). t ++ after) (spelling_is l d z);
}

spelled_shape : (first : Option Pair) (l d : ℕ) (z : Trapezoid) (rest : List ℕ) (f : ShotFields)
    → IsShotSpelled first rest (fields_of l d z) → IsShotSpelled first rest f → HasShape f z
spelled_shape first l d z rest f s t =
    let same = one_record (fields_of l d z) f s.after t.after s.narrow t.narrow (sym s.text ∙ t.text) in
    subst (λ (g : ShotFields). HasShape g z) same.0 refl

fault_stops : (first : Option Pair) (l d : ℕ) (rest : List ℕ) (at : ℕ) (bad : ShotBad) → IsNarrowPair l d
    → AgreesWithPair first l d → IsShotRecordFault first rest at bad → Stops l d rest
fault_stops first l d rest at bad p g (inl a) = λ z after h e. whole_apart rest
    (spelled_whole first rest (fields_of l d z) (shot_spelled first l d z rest after p h g e)) a.1
fault_stops first l d rest at bad p g (inr (inl a)) = λ z after h e. a.2
    (spelled_whole first rest (fields_of l d z) (shot_spelled first l d z rest after p h g e))
fault_stops first l d rest at bad p g (inr (inr (inl a))) = λ z after h e. a.2 (fields_of l d z) (shot_spelled first l d z rest after p h g e)
fault_stops first l d rest at bad p g (inr (inr (inr a))) = λ z after h e. a.1.2 z h
    (spelled_shape first l d z rest a.1.0 (shot_spelled first l d z rest after p h g e) a.1.1)

end_stops : (l d : ℕ) (rest : List ℕ) → IsNarrowPair l d → rest ≡ end → Stops l d rest
end_stops l d rest p e z after h f =
    whole_not_end rest _ (spelled_whole None rest (fields_of l d z) (shot_spelled None l d z rest after p h tt f)) e

more : (l d : ℕ) (z : Trapezoid) (zs : List Trapezoid) (x : List ℕ)
    → flat_map (spelling_of l d) (z ∷ zs) ++ x ≡ spelling_of l d z ++ (flat_map (spelling_of l d) zs ++ x)
more l d z zs x = append_assoc (spelling_of l d z) (flat_map (spelling_of l d) zs) x

tail : (z : Trapezoid) (zs : List Trapezoid) → All IsShot (z ∷ zs) → All IsShot zs
tail z zs h = λ k x below. h (suc k) x (omega arith)

meet : (l d : ℕ) (ys zs : List Trapezoid) (x y : List ℕ) → IsNarrowPair l d → All IsShot ys → All IsShot zs → Stops l d x → Stops l d y
    → flat_map (spelling_of l d) ys ++ x ≡ flat_map (spelling_of l d) zs ++ y → (ys ≡ zs) × (x ≡ y)
meet l d [] [] x y p h g s t e = (refl, e)
meet l d [] (z ∷ zs) x y p h g s t e = absurd (s z (flat_map (spelling_of l d) zs ++ y) (g 0 z (omega arith)) (e ∙ more l d z zs y))
meet l d (z ∷ ys) [] x y p h g s t e = absurd (t z (flat_map (spelling_of l d) ys ++ x) (h 0 z (omega arith)) (sym e ∙ more l d z ys x))
meet l d (v ∷ ys) (z ∷ zs) x y p h g s t e =
    let one = record_names l d l d v z (flat_map (spelling_of l d) ys ++ x) (flat_map (spelling_of l d) zs ++ y) p p
    (h 0 v (omega arith)) (g 0 z (omega arith)) (sym (more l d v ys x) ∙ (e ∙ more l d z zs y)) in
    let rest = meet l d ys zs x y p (tail v ys h) (tail z zs g) s t one.3 in
    (ap (λ (w : Trapezoid). w ∷ ys) one.2 ∙ ap (λ (ws : List Trapezoid). z ∷ ws) rest.0, rest.1)

-- ---- one reading of the bytes

-- no record of a shot with a pair that may stand next begins here
abbrev pub IsStop : Option Pair → List ℕ → Type 0
IsStop first rest = (l d : ℕ) → IsNarrowPair l d → AgreesWithPair first l d → Stops l d rest

same_records : (l d m e : ℕ) (zs : List Trapezoid) (y : List ℕ) → l ≡ m → d ≡ e → flat_map (spelling_of m e) zs ++ y ≡ flat_map (spelling_of l d) zs ++ y
same_records l d m e zs y p q = rw (p, q) refl

agrees_too : (other : Option Pair) (l d m e : ℕ) → l ≡ m → d ≡ e → AgreesWithPair other m e → AgreesWithPair other l d
agrees_too other l d m e p q h = rw (p, q) h

-- the records of both, and what follows them
record Same (l d m e : ℕ) (ys zs : List Trapezoid) (x y : List ℕ) : Type 0 where
  shots : ys ≡ zs
  rest : x ≡ y
  layer : ys ≢ [] → l ≡ m
  datatype : ys ≢ [] → d ≡ e

meet_pairs : (l d m e : ℕ) (first other : Option Pair) (ys zs : List Trapezoid) (x y : List ℕ) → IsNarrowPair l d
    → IsNarrowPair m e → All IsShot ys → All IsShot zs
    → IsPairOf first ys → IsPairOf other zs → AgreesWithPair first l d → AgreesWithPair other m e → IsStop first x → IsStop other y
    → flat_map (spelling_of l d) ys ++ x ≡ flat_map (spelling_of m e) zs ++ y → Same l d m e ys zs x y
meet_pairs l d m e first other [] [] x y p q h g i j a b s t w =
    record { shots = refl; rest = w; layer = λ n. absurd (n refl); datatype = λ n. absurd (n refl) }
meet_pairs l d m e None other [] (z ∷ zs) x y p q h g i j a b s t w = absurd
    (s m e q tt z (flat_map (spelling_of m e) zs ++ y) (g 0 z (omega arith)) (w ∙ more m e z zs y))
meet_pairs l d m e (Some r) other [] (z ∷ zs) x y p q h g i j a b s t w = absurd (i.0 refl)
meet_pairs l d m e first None (z ∷ ys) [] x y p q h g i j a b s t w = absurd
    (t l d p tt z (flat_map (spelling_of l d) ys ++ x) (h 0 z (omega arith)) (sym w ∙ more l d z ys x))
meet_pairs l d m e first (Some r) (z ∷ ys) [] x y p q h g i j a b s t w = absurd (j.0 refl)
meet_pairs l d m e first other (v ∷ ys) (z ∷ zs) x y p q h g i j a b s t w =
    let one = record_names l d m e v z (flat_map (spelling_of l d) ys ++ x) (flat_map (spelling_of m e) zs ++ y) p q
    (h 0 v (omega arith)) (g 0 z (omega arith)) (sym (more l d v ys x) ∙ (w ∙ more m e z zs y)) in
    let rest = meet l d ys zs x y p (tail v ys h) (tail z zs g) (s l d p a)
    (t l d p (agrees_too other l d m e one.0 one.1 b)) (one.3 ∙ same_records l d m e zs y one.0 one.1) in
    record {
      shots = ap (λ (c : Trapezoid). c ∷ ys) one.2 ∙ ap (λ (ws : List Trapezoid). z ∷ ws) rest.0;
      rest = rest.1;
      layer = λ n. one.0;
      datatype = λ n. one.1;
    }

pair : ℕ → ℕ → Pair
pair layer datatype = record { layer = layer; datatype = datatype }

pair_by : (a b c d : ℕ) → a ≡ c → b ≡ d → pair a b ≡ pair c d
pair_by a b c d p q = rw (p, q) refl

same_pair : (p q : Pair) → p.layer ≡ q.layer → p.datatype ≡ q.datatype → p ≡ q
unfolding pair
same_pair p q a b = pair_by p.layer p.datatype q.layer q.datatype a b

pair_one : (l d m e : ℕ) (first other : Option Pair) (ys zs : List Trapezoid) (x y : List ℕ) → IsPairOf first ys
    → IsPairOf other zs → AgreesWithPair first l d → AgreesWithPair other m e → Same l d m e ys zs x y → first ≡ other
pair_one l d m e None None ys zs x y i j a b s = refl
pair_one l d m e None (Some q) ys zs x y i j a b s = absurd (j.0 (sym s.shots ∙ i))
pair_one l d m e (Some p) None ys zs x y i j a b s = absurd (i.0 (s.shots ∙ j))
pair_one l d m e (Some p) (Some q) ys zs x y i j a b s = ap Some (same_pair p q (a.0 ∙ (s.layer i.0 ∙ sym b.0)) (a.1 ∙ (s.datatype i.0 ∙ sym b.1)))

pub up_whole : (bytes : List ℕ) (at : ℕ) (first : Option Pair) (u : AreShotsReadUpTo bytes at first)
    → bytes ≡ head u.unit ++ (flat_map (spelling_of u.layer u.datatype) u.shots ++ drop at bytes)
up_whole bytes at first u =
    sym (take-append-drop at bytes) ∙ (ap (λ (t : List ℕ). t ++ drop at bytes) u.text ∙ append_assoc (head u.unit)
    (flat_map (spelling_of u.layer u.datatype) u.shots) (drop at bytes))

up_rest : (bytes : List ℕ) (at to : ℕ) (first other : Option Pair) (u : AreShotsReadUpTo bytes at first) (v : AreShotsReadUpTo bytes to other)
    → (u.unit ≡ v.unit) × (flat_map (spelling_of u.layer u.datatype) u.shots ++ drop at bytes ≡ flat_map
    (spelling_of v.layer v.datatype) v.shots ++ drop to bytes)
up_rest bytes at to first other u v =
    head_peel u.unit v.unit (flat_map (spelling_of u.layer u.datatype) u.shots ++ drop at bytes)
    (flat_map (spelling_of v.layer v.datatype) v.shots ++ drop to bytes) (unit_small u.unit u.unit_fits)
    (unit_small v.unit v.unit_fits)
    (sym (up_whole bytes at first u) ∙ up_whole bytes to other v)

up_same : (bytes : List ℕ) (at to : ℕ) (first other : Option Pair) (u : AreShotsReadUpTo bytes at first)
    (v : AreShotsReadUpTo bytes to other) → IsStop first (drop at bytes) → IsStop other (drop to bytes)
    → Same u.layer u.datatype v.layer v.datatype u.shots v.shots (drop at bytes) (drop to bytes)
up_same bytes at to first other u v s t =
    meet_pairs u.layer u.datatype v.layer v.datatype first other u.shots v.shots (drop at bytes)
    (drop to bytes) u.narrow v.narrow u.legal v.legal u.pair_fits v.pair_fits u.agrees v.agrees s t
    (up_rest bytes at to first other u v).1

fault_ends : (first : Option Pair) (rest : List ℕ) (at : ℕ) (bad : ShotBad) → IsShotRecordFault first rest at bad → IsStop first rest
fault_ends first rest at bad f l d p g = fault_stops first l d rest at bad p g f

-- ---- at the whole file

at_one : (bytes : List ℕ) (at to : ℕ) → at ≤ length bytes → to ≤ length bytes → drop at bytes ≡ drop to bytes → to ≡ at
at_one bytes at to h g e = omega (arith, length-drop at bytes, length-drop to bytes, ap length e)

pub one_fault : (bytes : List ℕ) (bad other : ShotBad) → IsFirstShotFault bytes bad → IsFirstShotFault bytes other → bad ≡ other
one_fault bytes bad other (inl a) (inl b) =
    let same : a.0 ≡ b.0 = omega (arith, b.2.longest a.0 a.2.begins, a.2.longest b.0 b.2.begins) in
    a.1 ∙ (ap faults.Head same ∙ sym b.1)
one_fault bytes bad other (inl a) (inr b) = absurd (a.2.no_head b.2.unit _ b.2.unit_fits (up_whole bytes b.0 b.1 b.2))
one_fault bytes bad other (inr a) (inl b) = absurd (b.2.no_head a.2.unit _ a.2.unit_fits (up_whole bytes a.0 a.1 a.2))
one_fault bytes bad other (inr a) (inr b) =
    let same = up_same bytes a.0 b.0 a.1 b.1 a.2 b.2 (fault_ends a.1 (drop a.0 bytes) a.0 bad a.3) (fault_ends b.1 (drop b.0 bytes) b.0 other b.3) in
    let pairs : b.1 ≡ a.1 = sym
    (pair_one a.2.layer a.2.datatype b.2.layer b.2.datatype a.1 b.1 a.2.shots b.2.shots (drop a.0 bytes)
    (drop b.0 bytes) a.2.pair_fits b.2.pair_fits a.2.agrees b.2.agrees same) in
    let place : b.0 ≡ a.0 = at_one bytes a.0 b.0 a.2.within b.2.within same.rest in
    let moved = subst (λ (n : ℕ). IsShotRecordFault b.1 (drop n bytes) n other) place b.3 in
    let own = subst (λ (p : Option Pair). IsShotRecordFault p (drop a.0 bytes) a.0 other) pairs moved in
    record_one a.1 (drop a.0 bytes) a.0 bad other a.3 own

end_right : (first : Option Pair) (rest : List ℕ) (at : ℕ) (bad : ShotBad) → rest ≡ end → IsShotRecordFault first rest at bad → ⊥
end_right first rest at bad e (inl a) = a.2 e
end_right first rest at bad e (inr (inl a)) = a.1 (_, e)
end_right first rest at bad e (inr (inr (inl a))) = whole_apart rest a.1 (_, e)
end_right first rest at bad e (inr (inr (inr a))) = whole_apart rest (spelled_whole first rest a.1.0 a.1.1) (_, e)

-- bytes that were read up to END have no fault
pub no_fault : (bytes : List ℕ) (at : ℕ) (first : Option Pair) (bad : ShotBad) → AreShotsReadUpTo bytes at first → drop at bytes ≡ end → IsFirstShotFault bytes bad → ⊥
no_fault bytes at first bad u e (inl b) = b.2.no_head u.unit _ u.unit_fits (up_whole bytes at first u)
no_fault bytes at first bad u e (inr b) =
    let same = up_same bytes at b.0 first b.1 u b.2 (λ l d p g. end_stops l d (drop at bytes) p e) (fault_ends b.1 (drop b.0 bytes) b.0 bad b.3) in
    end_right b.1 (drop b.0 bytes) b.0 bad (sym same.rest ∙ e) b.3

-- two readings up to END are of one unit, one pair and the same shots
pub one_read : (bytes : List ℕ) (at to : ℕ) (first other : Option Pair) (u : AreShotsReadUpTo bytes at first)
    (v : AreShotsReadUpTo bytes to other) → drop at bytes ≡ end → drop to bytes ≡ end
    → (u.unit ≡ v.unit) × (first ≡ other) × (u.shots ≡ v.shots)
one_read bytes at to first other u v e f =
    let same = up_same bytes at to first other u v (λ l d p g. end_stops l d (drop at bytes) p e) (λ l d p g. end_stops l d (drop to bytes) p f) in (
      (up_rest bytes at to first other u v).0,
      pair_one u.layer u.datatype v.layer v.datatype first other u.shots v.shots (drop at bytes) (drop to bytes) u.pair_fits v.pair_fits u.agrees v.agrees same,
      same.shots,
    )

-- ---- the text of shots

front_of : ℕ → ℕ → ℕ → List Trapezoid → List ℕ
front_of unit l d shots = head unit ++ flat_map (spelling_of l d) shots

text_front : (unit l d : ℕ) (shots : List Trapezoid) → shot_text unit l d shots ≡ front_of unit l d shots ++ end
unfolding shot_text front_of
text_front unit l d shots = refl

pair_for : ℕ → ℕ → List Trapezoid → Option Pair
pair_for l d [] = None
pair_for l d (z ∷ zs) = Some (record { layer = l; datatype = d })

pair_for_fits : (l d : ℕ) (shots : List Trapezoid) → IsNarrowPair l d → IsPairOf (pair_for l d shots) shots
unfolding pair_for
pair_for_fits l d [] p = refl
pair_for_fits l d (z ∷ zs) p = (λ e. absurd (cc), p)

pair_for_agrees : (l d : ℕ) (shots : List Trapezoid) → AgreesWithPair (pair_for l d shots) l d
unfolding pair_for
pair_for_agrees l d [] = tt
pair_for_agrees l d (z ∷ zs) = (refl, refl)

text_up : (bytes : List ℕ) (unit l d : ℕ) (shots : List Trapezoid) → IsUnit unit → IsNarrowPair l d → All IsShot shots → bytes ≡ shot_text unit l d shots
    → AreShotsReadUpTo bytes (length (front_of unit l d shots)) (pair_for l d shots)
unfolding front_of
text_up bytes unit l d shots h p all e =
    let whole = e ∙ text_front unit l d shots in
    record {
      within = omega (arith, ap length whole, length-append (front_of unit l d shots) end);
      unit = unit;
      unit_fits = h;
      shots = shots;
      legal = all;
      layer = l;
      datatype = d;
      narrow = p;
      pair_fits = pair_for_fits l d shots p;
      agrees = pair_for_agrees l d shots;
      text = ap (take (length (front_of unit l d shots))) whole ∙ take-append_seam (front_of unit l d shots) end;
    }

text_rest : (bytes : List ℕ) (unit l d : ℕ) (shots : List Trapezoid) → bytes ≡ shot_text unit l d shots → drop (length (front_of unit l d shots)) bytes ≡ end
text_rest bytes unit l d shots e = ap (drop (length (front_of unit l d shots))) (e ∙ text_front unit l d shots) ∙ drop-append_seam (front_of unit l d shots) end

-- the text of shots has no fault
pub text_right : (bytes : List ℕ) (unit l d : ℕ) (shots : List Trapezoid) (bad : ShotBad) → IsUnit unit
    → IsNarrowPair l d → All IsShot shots → bytes ≡ shot_text unit l d shots → IsFirstShotFault bytes bad → ⊥
text_right bytes unit l d shots bad h p all e =
    no_fault bytes (length (front_of unit l d shots)) (pair_for l d shots) bad (text_up bytes unit l d shots h p all e) (text_rest bytes unit l d shots e)

agrees_by : (first : Option Pair) (ys : List Trapezoid) (l d m e : ℕ) → IsPairOf first ys → AgreesWithPair first l d
    → (ys ≢ [] → l ≡ m) → (ys ≢ [] → d ≡ e) → AgreesWithPair first m e
agrees_by None ys l d m e h g p q = tt
agrees_by (Some r) ys l d m e h g p q = (g.0 ∙ p h.0, g.1 ∙ q h.0)

-- what was read up to END is what the text says
pub text_read : (bytes : List ℕ) (at : ℕ) (first : Option Pair) (u : AreShotsReadUpTo bytes at first) (unit l d : ℕ)
    (shots : List Trapezoid) → drop at bytes ≡ end → IsUnit unit → IsNarrowPair l d → All IsShot shots
    → bytes ≡ shot_text unit l d shots
    → (u.unit ≡ unit) × (u.shots ≡ shots) × AgreesWithPair first l d
unfolding text_up
text_read bytes at first u unit l d shots last h p all e =
    let v = text_up bytes unit l d shots h p all e in
    let same = up_same bytes at (length (front_of unit l d shots)) first (pair_for l d shots) u v
    (λ m k q g. end_stops m k (drop at bytes) q last)
    (λ m k q g. end_stops m k (drop (length (front_of unit l d shots)) bytes) q
    (text_rest bytes unit l d shots e)) in (
      (up_rest bytes at (length (front_of unit l d shots)) first (pair_for l d shots) u v).0,
      same.shots,
      agrees_by
          first u.shots u.layer u.datatype l d u.pair_fits u.agrees same.layer same.datatype,
    )

-- ---- what was told

pub read_fault : (bytes : List ℕ) (from at unit : ℕ) (pair : Option Pair) (shots : List Trapezoid) (bad : ShotBad)
    → IsUnit unit → at ≤ length bytes → bytes ≡ head unit ++ drop from bytes → IsPairOf pair shots → All IsShot shots
    → drop from bytes ≡ records_with pair shots ++ drop at bytes → IsShotRecordFault pair (drop at bytes) at bad → IsFirstShotFault bytes bad
read_fault bytes from at unit pair shots bad u within e h all f fault = inr (at, pair, up_to bytes from at unit pair shots u within e h all f, fault)

pub cut_fault : (first : Option Pair) (rest : List ℕ) (at : ℕ) → rest ≡ [] → IsShotRecordFault first rest at (faults.Record at)
cut_fault first rest at e =
    inr (inl (
      refl,
      (λ b. let w : [] ≡ 2 ∷ b.0 = sym e ∙ b.1 in absurd (cc)),
      (λ b. let w : [] ≡ b.id ∷ 123 ∷ concat b.numbers ++ b.after = sym e ∙ b.text in absurd (cc)),
    ))

pub end_fault : (first : Option Pair) (rest : List ℕ) (at : ℕ) → get_or rest 0 0 ≡ 2 → rest ≢ end → IsShotRecordFault first rest at (faults.End at)
end_fault first [] at e n = absurd (omega arith)
end_fault first (x ∷ rest) at e n = inl (refl, (rest, ap (λ (b : ℕ). b ∷ rest) e), n)

pub told : {T : Type 0} (bytes : List ℕ) (own : ShotBad) (result : Result T (Refusal ShotBad)) → result ≡ Err (Fault own)
    → IsFirstShotFault bytes own → (bad : ShotBad) → IsFirstShotFault bytes bad → (result ≡ Err (Fault bad))
    ⊎ (result ≡ Err NoMemory)
told {T} bytes own result e f bad w =
    let wrong : ShotBad → Result T (Refusal ShotBad) = λ b. Err (Fault b) in
    inl (e ∙ ap wrong (one_fault bytes own bad f w))
