-- What is kept of the records, and what was read, with one more record.
use Rattle.std.proofs.Common.{◌≡◌, ◌≢◌, ◌⊎◌, ℕ, ◌+◌, ◌<◌, ◌≤◌, ◌^◌, List, [], ◌∷◌, ◌++◌, map, length, take, drop}
use Rattle.std.proofs.Common.{get_or, Option, Some, None, All, refl, arith, ap, sym, subst, ◌∙◌, inl, inr, append_assoc}
use Rattle.std.proofs.Common.{length-append}
use Rattle.std.specs.Prelude.{flat_map, Result, Ok, Err, IfOk, IfErr, OnOk}
use Rattle.std.specs.List.{concat}
use Rattle.std.proofs.lemmas.List.{append-nil, map-append, take-append-drop, append_cancel_right}
use Rattle.std.proofs.lemmas.List.Elements.{All-append}
use Rattle.std.proofs.lemmas.List.Sums.{sum_by-append}
use Rattle.std.proofs.lemmas.Grind.{flat_map-append}
use Rattle.geo_stream.specs.Refusals.{IsForFault}
use Rattle.geo_stream.specs.declared.refusal.Refusal.{Refusal}
use Rattle.geo_stream.specs.declared.refusal.Refusal.TheVariants.{Fault, NoMemory}
use Rattle.half_grid.specs.Trapezoids.{Trapezoid, IsShot}
use Rattle.half_grid.specs.declared.plane.Point.{Point}
use Rattle.layout_model.specs.declared.pair.Pair.{Pair}
use Rattle.oas_lex.specs.ShotLaws.{IsNarrowPair}
use Rattle.oas_lex.specs.ShotText.{IsUnit, head, end, fields_of}
use Rattle.oas_lex.specs.declared.fields.ShotFields.{ShotFields}
use Rattle.shot_reader.specs.Reading.{IsPairOf, AgreesWithPair}
use Rattle.shot_reader.specs.Refusals.{BeginsEnd}
use Rattle.shot_repeat.specs.Giving.{IsGivenBy}
use Rattle.shot_repeat.specs.Modal.{updated, AreLast, IsShown}
use Rattle.shot_repeat.specs.Packed.{IsPackedFile}
use Rattle.shot_repeat.specs.Progress.{IsUnspelled, AreKept, IsJudged, HasRead, first_of, layer_in, datatype_in}
use Rattle.shot_repeat.specs.Records.{IsNarrow, IsNarrowNumber, record_text}
use Rattle.shot_repeat.specs.Refusals.{IsWholePackRecord, IsPackSpelled, first_pair, HasFirstPair, count_given, IsPackValueFault, IsPackRecordFault, ArePackRecordsReadUpTo, IsFirstPackFault}
use Rattle.shot_repeat.specs.Values.{newer, IsDefined, fields_in, shot_count, step_of, moved_from, given, all_given}
use Rattle.shot_repeat.specs.declared.modal.Modal.{Modal}
use Rattle.shot_repeat.specs.declared.reading.Progress.{Progress}
use Rattle.shot_repeat.specs.declared.record.PackRecord.{PackRecord}
use Rattle.shot_repeat.specs.declared.refusing.PackBad.{PackBad}
use Rattle.shot_repeat.specs.declared.refusing.PackBad.TheVariants as faults
use Rattle.shot_repeat.proofs.Gifts.{length_moved, length_map, some_given, all_more}
use Rattle.shot_repeat.proofs.Lasts.{lasts_more, shown_fields, shown_defined, defined_shown}
use Rattle.shot_repeat.proofs.Rights.{right_more, right_narrow, right_defined, right_few}

-- ---- at one record

-- the last values after a record
pub kept_more : (before : List PackRecord) (p : Progress) (so_far : ℕ) (m : Modal) (r : PackRecord)
    → AreKept before p so_far → m ≡ updated p.modal r → AreLast (before ++ r ∷ []) m
kept_more before p so_far m r k e = subst (λ (n : Modal). AreLast (before ++ r ∷ []) n) (sym e) (lasts_more before p.modal r k.last)

pub undefined : (before : List PackRecord) (p : Progress) (so_far : ℕ) (m : Modal) (r : PackRecord)
    → AreKept before p so_far → m ≡ updated p.modal r → ((f : ShotFields) → IsShown m r f → ⊥) → IsDefined before r → ⊥
undefined before p so_far m r k e none d = none (fields_in before r) (defined_shown before m r (kept_more before p so_far m r k e) d)

-- what the fields that are shown say
pub record Shown (before : List PackRecord) (p : Progress) (so_far : ℕ) (r : PackRecord) (f : ShotFields) : Type 0 where
  pub fields : f ≡ fields_in before r
  pub defined : IsDefined before r

pub shown : (before : List PackRecord) (p : Progress) (so_far : ℕ) (m : Modal) (r : PackRecord) (f : ShotFields)
    → AreKept before p so_far → m ≡ updated p.modal r → IsShown m r f → Shown before p so_far r f
shown before p so_far m r f k e s =
    let lasts = kept_more before p so_far m r k e in
    record { fields = shown_fields before m r f lasts s; defined = shown_defined before m r f lasts s }

agrees_by : (a b : Option Pair) (f g : ShotFields) → a ≡ b → f ≡ g → AgreesWithPair a f.layer f.datatype → AgreesWithPair b g.layer g.datatype
agrees_by a b f g p q h = subst (λ (k : ShotFields). AgreesWithPair b k.layer k.datatype) q (subst (λ (c : Option Pair). AgreesWithPair c f.layer f.datatype) p h)

pub pair_shown : (before : List PackRecord) (p : Progress) (so_far : ℕ) (r : PackRecord) (f : ShotFields)
    → AreKept before p so_far → Shown before p so_far r f → AgreesWithPair p.first f.layer f.datatype → HasFirstPair before r
pair_shown before p so_far r f k s h = agrees_by p.first (first_pair before) f (fields_in before r) k.first s.fields h

pub pair_back : (before : List PackRecord) (p : Progress) (so_far : ℕ) (r : PackRecord) (f : ShotFields)
    → AreKept before p so_far → Shown before p so_far r f → HasFirstPair before r → AgreesWithPair p.first f.layer f.datatype
pair_back before p so_far r f k s h = agrees_by (first_pair before) p.first (fields_in before r) f (sym k.first) (sym s.fields) h

pub judged_by : (before : List PackRecord) (p : Progress) (so_far : ℕ) (r : PackRecord) (f : ShotFields)
    → AreKept before p so_far → Shown before p so_far r f → AgreesWithPair p.first f.layer f.datatype
    → shot_count r.repetition ≤ 16777216 → so_far + shot_count r.repetition ≤ 33554432 → IsJudged before r f
judged_by before p so_far r f k s h own all = record {
  fields = s.fields;
  defined = s.defined;
  pair = pair_shown before p so_far r f k s h;
  few = record { own = own; all = omega (arith, all, k.count) };
}

pub too_many : (before : List PackRecord) (p : Progress) (so_far at : ℕ) (r : PackRecord) (f : ShotFields)
    → AreKept before p so_far → Shown before p so_far r f → AgreesWithPair p.first f.layer f.datatype
    → (16777216 < shot_count r.repetition) ⊎ (33554432 < so_far + shot_count r.repetition) → IsPackValueFault before r at (faults.Many at)
too_many before p so_far at r f k s h (inl own) = inr (s.defined, inr (pair_shown before p so_far r f k s h, inl (refl, λ few. omega (arith, few.own, own))))
too_many before p so_far at r f k s h (inr all) = inr
    (s.defined, inr (pair_shown before p so_far r f k s h, inl (refl, λ few. omega (arith, few.all, all, k.count))))

-- ---- the record's shots

given_is : (before : List PackRecord) (r : PackRecord) (f : ShotFields) (zs : List Trapezoid) → f ≡ fields_in before r
    → IsGivenBy f (step_of r.repetition) (shot_count r.repetition) zs
    → map (fields_of (fields_in before r).layer (fields_in before r).datatype) zs ≡ given before r
given_is before r f zs e g = subst
    (λ (k : ShotFields). map (fields_of k.layer k.datatype) zs ≡ moved_from k (step_of r.repetition) 0
    (shot_count r.repetition)) e g.are

given_by : (before : List PackRecord) (r : PackRecord) (f : ShotFields) (zs : List Trapezoid) → f ≡ fields_in before r
    → All IsShot zs → map (fields_of (fields_in before r).layer (fields_in before r).datatype) zs ≡ given before r
    → IsGivenBy f (step_of r.repetition) (shot_count r.repetition) zs
given_by before r f zs e legal are = record {
  legal = legal;
  are = subst (λ (k : ShotFields). map (fields_of k.layer k.datatype) zs ≡ moved_from k (step_of r.repetition) 0 (shot_count r.repetition)) (sym e) are;
}

pub not_legal : (before : List PackRecord) (r : PackRecord) (f : ShotFields) (at : ℕ) → IsJudged before r f
    → ((zs : List Trapezoid) → IsGivenBy f (step_of r.repetition) (shot_count r.repetition) zs → ⊥)
    → IsPackValueFault before r at (faults.Illegal at)
not_legal before r f at j none = inr (j.defined, inr (j.pair, inr (j.few, refl, λ l. none l.shots (given_by before r f l.shots j.fields l.legal l.are))))

-- the fault of a record that is spelled
pub value_fault : (before : List PackRecord) (rest after : List ℕ) (r : PackRecord) (at : ℕ) (bad : PackBad)
    → IsNarrow r → rest ≡ record_text r ++ after → IsPackValueFault before r at bad → IsPackRecordFault before rest at bad
value_fault before rest after r at bad n e v = inr (inr (inr (r, record { narrow = n; after = after; text = e }, v)))

-- and of one that isn't
unspelled_by : (before : List PackRecord) (rest : List ℕ) (at : ℕ) (bad : PackBad)
    → ((bad ≡ faults.Spelling at) × IsWholePackRecord rest) ⊎ ((bad ≡ faults.Record at) × (IsWholePackRecord rest → ⊥))
    → ((r : PackRecord) → IsPackSpelled rest r → ⊥) → (BeginsEnd rest → ⊥) → IsPackRecordFault before rest at bad
unspelled_by before rest at bad (inl a) none h = inr (inr (inl (a.0, a.1, none)))
unspelled_by before rest at bad (inr a) none h = inr (inl (a.0, h, a.1))

pub unspelled : (before : List PackRecord) (rest : List ℕ) (at : ℕ) (bad : PackBad) → IsUnspelled rest at bad
    → (BeginsEnd rest → ⊥) → IsPackRecordFault before rest at bad
unspelled before rest at bad u h = unspelled_by before rest at bad u.cause u.none h

-- ---- one more record

first_more : (before : List PackRecord) (p : Progress) (so_far : ℕ) (r : PackRecord) (f : ShotFields)
    → AreKept before p so_far → f ≡ fields_in before r → Some (first_of p.first f) ≡ first_pair (before ++ r ∷ [])
first_more [] p so_far r f k e = ap (λ (o : Option Pair). Some (first_of o f)) k.first ∙ ap (λ (g : ShotFields). Some (first_of None g)) e
first_more (b ∷ before) p so_far r f k e = ap (λ (o : Option Pair). Some (first_of o f)) k.first

-- a pair that is in effect, where it agrees with the first
first_layer : (first : Option Pair) (f : ShotFields) → AgreesWithPair first f.layer f.datatype
    → ((first_of first f).layer ≡ f.layer) × ((first_of first f).datatype ≡ f.datatype)
first_layer None f h = (refl, refl)
first_layer (Some own) f h = h

-- the shots so far have the pair of the first record, also where they have none
own_shots : (first : Option Pair) (f : ShotFields) (shots : List Trapezoid) → IsPairOf first shots
    → map (fields_of (layer_in first) (datatype_in first)) shots ≡ map
    (fields_of (first_of first f).layer (first_of first f).datatype) shots
own_shots None f shots h = ap (map (fields_of 0 0)) h ∙ sym (ap (map (fields_of f.layer f.datatype)) h)
own_shots (Some own) f shots h = refl

narrow_newer : (own before : Option ℕ) (m : Option ℕ) (v : ℕ) → IsNarrowNumber own → m ≡ newer own before → before ≡ None → m ≡ Some v → v < 2 ^ 63
narrow_newer None before m v h e f g = let wrong : None ≡ Some v = sym f ∙ (sym e ∙ g) in absurd (cc)
narrow_newer (Some w) before m v h e f g =
    let both : Some w ≡ Some v = sym e ∙ g in
    let same : w ≡ v = cc in
    omega (arith, h, same)

none_before : (records : List PackRecord) (p : Progress) (so_far : ℕ) → AreKept records p so_far → p.first ≡ None
    → (p.modal.layer ≡ None) × (p.modal.datatype ≡ None)
none_before [] p so_far k e = (k.last.layer, k.last.datatype)
none_before (b ∷ records) p so_far k e = let wrong : first_pair (b ∷ records) ≡ None = sym k.first ∙ e in absurd (cc)

narrow_pair : (first : Option Pair) (f : ShotFields) (shots : List Trapezoid) → IsPairOf first shots
    → (first ≡ None → IsNarrowPair f.layer f.datatype)
    → IsNarrowPair (first_of first f).layer (first_of first f).datatype
narrow_pair None f shots h g = g refl
narrow_pair (Some own) f shots h g = h.1

-- the pair of the records is narrow
narrow_kept : (records : List PackRecord) (p : Progress) (so_far : ℕ) (shots : List Trapezoid) (m : Modal)
    (r : PackRecord) (f : ShotFields) → AreKept records p so_far → IsPairOf p.first shots → IsNarrow r
    → m ≡ updated p.modal r → IsShown m r f → IsNarrowPair (first_of p.first f).layer (first_of p.first f).datatype
narrow_kept records p so_far shots m r f k h n e s =
    narrow_pair p.first f shots h (λ none.
    let before = none_before records p so_far k none in
    record {
      layer_bits = narrow_newer r.layer p.modal.layer m.layer f.layer n.layer (ap (λ (o : Modal). o.layer) e) before.0 s.layer;
      datatype_bits = narrow_newer r.datatype p.modal.datatype m.datatype f.datatype n.datatype (ap (λ (o : Modal). o.datatype) e) before.1 s.datatype;
    })

not_nil : (xs zs : List Trapezoid) → 1 ≤ length zs → xs ++ zs ≢ []
not_nil [] [] h e = omega (arith, h)
not_nil [] (z ∷ zs) h e = absurd (cc)
not_nil (x ∷ xs) zs h e = absurd (cc)

count_more : (records : List PackRecord) (r : PackRecord) (xs zs : List Trapezoid) → length xs ≡ count_given records
    → length zs ≡ shot_count r.repetition → length (xs ++ zs) ≡ count_given (records ++ r ∷ [])
count_more records r xs zs h g =
    omega (arith, length-append xs zs, h, g, sum_by-append (λ (s : PackRecord). shot_count s.repetition) records (r ∷ []))

text_more : (unit : ℕ) (records : List PackRecord) (r : PackRecord) (bytes rest after : List ℕ)
    → bytes ≡ head unit ++ (flat_map record_text records ++ rest) → rest ≡ record_text r ++ after
    → bytes ≡ head unit ++ (flat_map record_text (records ++ r ∷ []) ++ after)
text_more unit records r bytes rest after e f =
    e ∙ ap (λ (t : List ℕ). head unit ++ t)
    (ap (λ (t : List ℕ). flat_map record_text records ++ t) f
    ∙ (ap (λ (t : List ℕ). flat_map record_text records ++ (t ++ after)) (sym (append-nil (record_text r)))
    ∙ (sym (append_assoc (flat_map record_text records) (record_text r ++ []) after)
    ∙ ap (λ (t : List ℕ). t ++ after) (sym (flat_map-append record_text records (r ∷ []))))))

-- the shots of the record are one or more
pub given_some : (f : ShotFields) (r : PackRecord) (zs : List Trapezoid)
    → IsGivenBy f (step_of r.repetition) (shot_count r.repetition) zs → length zs ≡ shot_count r.repetition
given_some f r zs g =
    sym (length_map (fields_of f.layer f.datatype) zs) ∙ (ap length g.are ∙ length_moved f (step_of r.repetition) 0 (shot_count r.repetition))

are_more : (records : List PackRecord) (r : PackRecord) (first : Option Pair) (f : ShotFields)
    (shots zs : List Trapezoid) → IsPairOf first shots
    → map (fields_of (layer_in first) (datatype_in first)) shots ≡ all_given [] records
    → AgreesWithPair first f.layer f.datatype → f ≡ fields_in records r → IsGivenBy f (step_of r.repetition) (shot_count r.repetition) zs
    → map (fields_of (first_of first f).layer (first_of first f).datatype) (shots ++ zs) ≡ all_given [] (records ++ r ∷ [])
are_more records r first f shots zs h are agrees e g =
    let own = fields_of (first_of first f).layer (first_of first f).datatype in
    let pairs = first_layer first f agrees in
    let front : map own shots ≡ all_given [] records = sym (own_shots first f shots h) ∙ are in
    let last : map own zs ≡ given records r =
    ap (λ (n : ℕ). map (fields_of n (first_of first f).datatype) zs) pairs.0
    ∙ (ap (λ (n : ℕ). map (fields_of f.layer n) zs) pairs.1
    ∙ (g.are ∙ ap (λ (k : ShotFields). moved_from k (step_of r.repetition) 0 (shot_count r.repetition)) e)) in
    map-append own shots zs
    ∙ (ap (λ (t : List ShotFields). t ++ map own zs) front
    ∙ (ap (λ (t : List ShotFields). all_given [] records ++ t) last ∙ sym (all_more [] records r)))

pub read_more : (bytes : List ℕ) (unit : ℕ) (records : List PackRecord) (p q : Progress)
    (shots later zs : List Trapezoid) (r : PackRecord) (f : ShotFields) (m : Modal) (next : ℕ)
    → HasRead bytes unit records p shots → IsNarrow r → drop p.at bytes ≡ record_text r ++ drop next bytes
    → next ≤ length bytes → m ≡ updated p.modal r → IsJudged records r f
    → later ≡ shots ++ zs → IsGivenBy f (step_of r.repetition) (shot_count r.repetition) zs → q.at ≡ next → q.first ≡ Some (first_of p.first f) → q.modal ≡ m
    → HasRead bytes unit (records ++ r ∷ []) q later
read_more bytes unit records p q shots later zs r f m next h n text within e j put g at first modal =
    let s : IsShown m r f = subst (λ (k : ShotFields). IsShown m r k) (sym j.fields)
    (defined_shown records m r (kept_more records p (length shots) m r h.kept e) j.defined) in
    let many = given_some f r zs g in
    let agrees = pair_back records p (length shots) r f h.kept (record { fields = j.fields; defined = j.defined }) j.pair in
    let sum : length (shots ++ zs) ≡ count_given (records ++ r ∷ []) = count_more records r shots zs h.kept.count many in
    let narrow = narrow_kept records p (length shots) shots m r f h.kept h.pair_fits n e s in
    record {
      within = rw at within;
      text = text_more unit records r bytes (drop p.at bytes) (drop q.at bytes) h.text (text ∙ ap (λ (k : ℕ). record_text r ++ drop k bytes) (sym at));
      right = right_more [] records r h.right (record {
        narrow = n;
        defined = j.defined;
        pair = j.pair;
        few = j.few;
        legal = record { shots = zs; legal = g.legal; are = given_is records r f zs j.fields g };
      });
      kept = record {
        first = first ∙ first_more records p (length shots) r f h.kept j.fields;
        last = subst (λ (k : Modal). AreLast (records ++ r ∷ []) k) (sym modal) (kept_more records p (length shots) m r h.kept e);
        count = ap length put ∙ sum;
      };
      legal = subst (λ (t : List Trapezoid). All IsShot t) (sym put) (All-append IsShot shots zs h.legal g.legal);
      pair_fits = rw (first, put) (not_nil shots zs (omega (arith, many, some_given r.repetition)), narrow);
      few = omega (arith, ap length put, length-append shots zs, many, h.kept.count, j.few.all);
      are = rw (first, put) (are_more records r p.first f shots zs h.pair_fits h.are agrees j.fields g);
    }

-- ---- the beginning and the end

pub none_read : (bytes : List ℕ) (unit : ℕ) (p : Progress) (shots : List Trapezoid) → p.at ≤ length bytes
    → bytes ≡ head unit ++ drop p.at bytes → p.first ≡ None → AreLast [] p.modal → shots ≡ []
    → HasRead bytes unit [] p shots
none_read bytes unit p shots within e first last none = record {
  within = within;
  text = e;
  right = tt;
  kept = record { first = first; last = last; count = ap length none };
  legal = subst (λ (t : List Trapezoid). All IsShot t) (sym none) (λ k d below. absurd (omega arith));
  pair_fits = rw first none;
  few = omega (arith, ap length none);
  are = ap (map (fields_of (layer_in p.first) (datatype_in p.first))) none;
}

-- what was read is a reading up to a place
pub read_up : (bytes : List ℕ) (unit : ℕ) (records : List PackRecord) (p : Progress) (shots : List Trapezoid)
    → IsUnit unit → HasRead bytes unit records p shots → ArePackRecordsReadUpTo bytes p.at records
read_up bytes unit records p shots u h = record {
  within = h.within;
  unit = unit;
  unit_fits = u;
  right = h.right;
  text = append_cancel_right (take p.at bytes) (head unit ++ flat_map record_text records) (drop p.at bytes)
      (take-append-drop p.at bytes ∙ (h.text ∙ sym (append_assoc (head unit) (flat_map record_text records) (drop p.at bytes))));
}

own_agrees : (pair : Option Pair) → AgreesWithPair pair (layer_in pair) (datatype_in pair)
own_agrees None = tt
own_agrees (Some p) = (refl, refl)

-- and a file where END follows
pub read_file : (bytes : List ℕ) (unit : ℕ) (records : List PackRecord) (p : Progress) (shots : List Trapezoid)
    → IsUnit unit → HasRead bytes unit records p shots → drop p.at bytes ≡ end → IsPackedFile bytes unit p.first shots
read_file bytes unit records p shots u h e = record {
  stands = record {
    unit_fits = u;
    legal = h.legal;
    pair_fits = h.pair_fits;
    layer = layer_in p.first;
    datatype = datatype_in p.first;
    agrees = own_agrees p.first;
    records = records;
    narrow = right_narrow [] records h.right;
    defined = right_defined [] records h.right;
    shots_given = h.are;
    text = h.text ∙ (ap (λ (t : List ℕ). head unit ++ (flat_map record_text records ++ t)) e ∙ sym
        (append_assoc (head unit) (flat_map record_text records) end));
  };
  few_each = right_few [] records h.right;
  few = h.few;
}

-- ---- what was told

pub read_fault : (bytes : List ℕ) (unit : ℕ) (records : List PackRecord) (p : Progress) (shots : List Trapezoid)
    (bad : PackBad) → IsUnit unit → HasRead bytes unit records p shots
    → IsPackRecordFault records (drop p.at bytes) p.at bad → IsFirstPackFault bytes bad
read_fault bytes unit records p shots bad u h fault = inr (p.at, records, read_up bytes unit records p shots u h, fault)

-- what is refused for no fault is refused for want of memory
pub wanting_by : {F : Type 0} (P : F → Type 0) (refusal : Refusal F) → IsForFault P refusal → ((fault : F) → P fault → ⊥) → refusal ≡ NoMemory
wanting_by {F} P (Fault fault) p h = absurd (h fault p)
wanting_by {F} P NoMemory p h = refl

-- what holds of an answer, by what holds of it
pub ok_by : {T E : Type 0} (r : Result T E) (P Q : T → Type 0) → ((x : T) → P x → Q x) → IfOk r P → IfOk r Q
ok_by {T} {E} (Ok x) P Q f h = f x h
ok_by {T} {E} (Err e) P Q f h = tt

pub on_ok_by : {T E : Type 0} (r : Result T E) (A B : Type 0) → (A → B) → OnOk r A → OnOk r B
on_ok_by {T} {E} (Ok x) A B f h = f h
on_ok_by {T} {E} (Err e) A B f h = tt

pub err_by : {T E : Type 0} (r : Result T E) (P Q : E → Type 0) → ((e : E) → P e → Q e) → IfErr r P → IfErr r Q
err_by {T} {E} (Ok x) P Q f h = tt
err_by {T} {E} (Err e) P Q f h = f e h

pub kept_by : (before : List PackRecord) (p : Progress) (so_far len : ℕ) → AreKept before p so_far → so_far ≡ len → AreKept before p len
kept_by before p so_far len k e = subst (λ (n : ℕ). AreKept before p n) e k

-- the step and the number of shots that were taken from the record
pub given_as : (f : ShotFields) (r : PackRecord) (step : Point) (count : ℕ) (zs : List Trapezoid)
    → step ≡ step_of r.repetition → count ≡ shot_count r.repetition → IsGivenBy f step count zs
    → IsGivenBy f (step_of r.repetition) (shot_count r.repetition) zs
given_as f r step count zs e g h = subst (λ (n : ℕ). IsGivenBy f (step_of r.repetition) n zs) g (subst (λ (s : Point). IsGivenBy f s count zs) e h)

pub none_as : (f : ShotFields) (r : PackRecord) (step : Point) (count : ℕ) → step ≡ step_of r.repetition
    → count ≡ shot_count r.repetition → ((zs : List Trapezoid) → IsGivenBy f step count zs → ⊥) → (zs : List Trapezoid)
    → IsGivenBy f (step_of r.repetition) (shot_count r.repetition) zs → ⊥
none_as f r step count e g none = λ zs h. none zs
    (subst (λ (n : ℕ). IsGivenBy f step n zs) (sym g)
    (subst (λ (s : Point). IsGivenBy f s (shot_count r.repetition) zs) (sym e) h))

pub illegal_fault : (before : List PackRecord) (rest after : List ℕ) (r : PackRecord) (f : ShotFields) (step : Point)
    (count at : ℕ) (bad : PackBad) → IsNarrow r → rest ≡ record_text r ++ after → IsJudged before r f
    → step ≡ step_of r.repetition → count ≡ shot_count r.repetition
    → (bad ≡ faults.Illegal at) × ((zs : List Trapezoid) → IsGivenBy f step count zs → ⊥) → IsPackRecordFault before rest at bad
illegal_fault before rest after r f step count at bad n e j s m a =
    value_fault before rest after r at bad n e
    (subst (λ (b : PackBad). IsPackValueFault before r at b) (sym a.0)
    (not_legal before r f at j (none_as f r step count s m a.1)))

-- the bytes end where a record is to begin
pub cut_fault : (before : List PackRecord) (rest : List ℕ) (at : ℕ) → rest ≡ [] → IsPackRecordFault before rest at (faults.Record at)
cut_fault before rest at e =
    inr (inl (
      refl,
      (λ b. let w : [] ≡ 2 ∷ b.0 = sym e ∙ b.1 in absurd (cc)),
      (λ b. let w : [] ≡ b.id ∷ b.info ∷ concat b.numbers ++ (b.repetition ++ b.after) = sym e ∙ b.text in absurd
          (cc)),
    ))

-- END goes on otherwise
pub end_fault : (before : List PackRecord) (rest : List ℕ) (at : ℕ) → get_or rest 0 0 ≡ 2 → rest ≢ end → IsPackRecordFault before rest at (faults.End at)
end_fault before [] at e n = absurd (omega arith)
end_fault before (x ∷ rest) at e n = inl (refl, (rest, ap (λ (b : ℕ). b ∷ rest) e), n)
