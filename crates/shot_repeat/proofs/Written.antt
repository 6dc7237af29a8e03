-- What was written of the records so far.
use Rattle.std.proofs.Common.{◌≡◌, ℕ, zero, suc, ◌+◌, ◌-◌, ◌<◌, ◌≤◌, List, [], ◌∷◌, ◌++◌, map, length, take, drop}
use Rattle.std.proofs.Common.{Option, Some, None, refl, arith, ap, sym, subst, ◌∙◌, inl, inr, append_assoc}
use Rattle.std.proofs.Common.{length-append}
use Rattle.std.specs.Prelude.{flat_map}
use Rattle.std.proofs.lemmas.List.{append-nil, drop-drop, drop-map, length-drop, take-append-le}
use Rattle.std.proofs.lemmas.Grind.{flat_map-append}
use Rattle.depot.specs.Content.{Content, with_current, with_file, with_written, IsPartWritten, IsPartMade}
use Rattle.half_grid.specs.Trapezoids.{Trapezoid}
use Rattle.oas_lex.specs.ShotText.{head, end, fields_of}
use Rattle.oas_lex.specs.declared.fields.ShotFields.{ShotFields}
use Rattle.shot_writer.specs.Writing.{IsWrittenButFor}
use Rattle.shot_writer.proofs.ForCallers.{part_of, with_written-twice, file_more}
use Rattle.shot_repeat.specs.Packer.{repetition_of, records_of, packed_records, packed_text}
use Rattle.shot_repeat.specs.Packing.{packed_record}
use Rattle.shot_repeat.specs.Records.{body_text, repetition_text, record_text}
use Rattle.shot_repeat.specs.Values.{shot_count}
use Rattle.shot_repeat.specs.declared.record.PackRecord.{PackRecord}
use Rattle.shot_repeat.specs.declared.record.Repetition.{Repetition}
use Rattle.shot_repeat.proofs.Followers.{AreOf, are_of, stands}
use Rattle.shot_repeat.proofs.Gifts.{length_map, some_given}
use Rattle.shot_repeat.proofs.Texts.{record_parts}

-- ---- one record

-- two pieces of a record, one after the other
pub both_written : (a b d : Content) (had body middle repetition held text : List ℕ)
    → IsWrittenButFor a (had ++ body) middle b → IsWrittenButFor b (middle ++ repetition) held d
    → text ≡ body ++ repetition → IsWrittenButFor a (had ++ text) held d
both_written a b d had body middle repetition held text p q e = record {
  written = p.written ++ q.written;
  content = q.content ∙ (ap (λ (k : Content). with_written k q.written) p.content ∙ with_written-twice a p.written q.written);
  whole =
      append_assoc p.written q.written held
      ∙ (ap (λ (t : List ℕ). p.written ++ t) q.whole
      ∙ (sym (append_assoc p.written middle repetition)
      ∙ (ap (λ (t : List ℕ). t ++ repetition) p.whole
      ∙ (append_assoc had body repetition ∙ ap (λ (t : List ℕ). had ++ t) (sym e)))));
}

-- what was held makes a prefix of more, where a prefix of it was written
pub part_after : (a b d : Content) (bytes held rest whole : List ℕ) → IsWrittenButFor a bytes held b
    → IsPartWritten b held d → whole ≡ bytes ++ rest → IsPartWritten a whole d
part_after a b d bytes held rest whole p part e =
    let all : (p.written ++ held) ++ rest ≡ whole = ap (λ (t : List ℕ). t ++ rest) p.whole ∙ sym e in (
      length p.written + part.0,
      omega (arith, ap length all, length-append (p.written ++ held) rest, length-append p.written held, part.1),
      part.2 ∙ (ap (λ (k : Content). with_written k (take part.0 held)) p.content ∙ (with_written-twice a p.written (take part.0 held)
          ∙ ap (with_written a) (part_of p.written held rest part.0 part.1 ∙ ap (take (length p.written + part.0)) all))),
    )

-- where nothing is held any more, all was written
pub all_after : (a b d : Content) (bytes held : List ℕ) → IsWrittenButFor a bytes held b → d ≡ with_written b held → d ≡ with_written a bytes
all_after a b d bytes held p e = e ∙ (ap (λ (k : Content). with_written k held) p.content ∙ (with_written-twice a p.written held ∙ ap (with_written a) p.whole))

-- ---- the records so far

pub records_skip : (last : Option ShotFields) (skip : ℕ) (fs : List ShotFields) → records_of last skip fs ≡ records_of last 0 (drop skip fs)
records_skip last zero fs = refl
records_skip last (suc skip) [] = refl
records_skip last (suc skip) (f ∷ fs) = records_skip last skip fs

-- the records before a place were written, but for what is held; those of the shots from there on are left
pub record WrittenSoFar (tells : Type 0) (old : Content) (l d : ℕ) (shots : List Trapezoid) (at : ℕ)
    (last : Option ShotFields) (count : ℕ) (held : List ℕ) (now : Content) : Type 0 where
  pub front : List PackRecord
  pub split : packed_records l d shots ≡ front ++ records_of last 0 (map (fields_of l d) (drop at shots))
  pub many : count ≡ length front
  pub written : tells → IsWrittenButFor old (flat_map record_text front) held now

pub none_written : (tells : Type 0) (old : Content) (l d : ℕ) (shots : List Trapezoid) → old ≡ with_written old []
    → WrittenSoFar tells old l d shots 0 None 0 [] old
none_written tells old l d shots e = record {
  front = [];
  split = refl;
  many = refl;
  written = λ told. record { written = []; content = e; whole = refl };
}

-- the records from the next shot on
record Next (l d : ℕ) (shots : List Trapezoid) (at : ℕ) (last : Option ShotFields) (f : ShotFields) (r : PackRecord) (count : ℕ) : Type 0 where
  are : records_of last 0 (map (fields_of l d) (drop at shots)) ≡ r ∷ records_of (Some f) 0 (map (fields_of l d) (drop (at + count) shots))
  within : at + count ≤ length shots

less_one : (at count : ℕ) → 1 ≤ count → at + 1 + (count - 1) ≡ at + count
less_one at count h = omega (arith, h)

next_by : (l d : ℕ) (shots : List Trapezoid) (at : ℕ) (last : Option ShotFields) (f : ShotFields)
    (o : Option Repetition) (fs : List ShotFields) → map (fields_of l d) (drop at shots) ≡ fs
    → fs ≡ f ∷ map (fields_of l d) (drop (at + 1) shots) → o ≡ repetition_of fs → at < length shots
    → Next l d shots at last f (packed_record last f o) (shot_count o)
next_by l d shots at last f o fs own e g h =
    let rest = map (fields_of l d) (drop (at + 1) shots) in
    let same : o ≡ repetition_of (f ∷ rest) = g ∙ ap repetition_of e in
    let skipped : drop (shot_count o - 1) rest ≡ map (fields_of l d) (drop (at + shot_count o) shots) =
    drop-map (fields_of l d) (shot_count o - 1) (drop (at + 1) shots) ∙ ap (map (fields_of l d))
    (drop-drop (shot_count o - 1) (at + 1) shots ∙ ap (λ (n : ℕ). drop n shots)
    (less_one at (shot_count o) (some_given o))) in
    let whole : map (fields_of l d) (drop at shots) ≡ f ∷ rest = own ∙ e in
    let s = stands l d f rest (subst (λ (t : List ShotFields). AreOf l d t) whole (are_of l d (drop at shots))) in
    record {
      are = ap (records_of last 0) whole
          ∙ (ap (λ (p : Option Repetition). packed_record last f p ∷ records_of (Some f) (shot_count p - 1) rest) (sym same)
          ∙ ap (λ (t : List PackRecord). packed_record last f o ∷ t) (records_skip (Some f) (shot_count o - 1) rest ∙ ap (records_of (Some f) 0) skipped));
      within = omega (arith, ap shot_count same, s.within, sym (ap length whole), length_map (fields_of l d) (drop at shots), length-drop at shots, h);
    }

front_more : (front rest : List PackRecord) (r : PackRecord)
    → flat_map record_text (front ++ r ∷ rest) ≡ (flat_map record_text front ++ record_text r)
    ++ flat_map record_text rest
front_more front rest r = flat_map-append record_text front (r ∷ rest) ∙ sym
    (append_assoc (flat_map record_text front) (record_text r) (flat_map record_text rest))

pub one_written : (tells : Type 0) (old now later : Content) (l d : ℕ) (shots : List Trapezoid) (at : ℕ)
    (last : Option ShotFields) (count : ℕ) (had held : List ℕ) (f : ShotFields) (o : Option Repetition) (r : PackRecord)
    → WrittenSoFar tells old l d shots at last count had now → at < length shots
    → map (fields_of l d) (drop at shots) ≡ f ∷ map (fields_of l d) (drop (at + 1) shots)
    → o ≡ repetition_of (map (fields_of l d) (drop at shots)) → r ≡ packed_record last f o
    → (tells → IsWrittenButFor now (had ++ record_text r) held later)
    → WrittenSoFar tells old l d shots (at + shot_count o) (Some f) (count + 1) held later
one_written tells old now later l d shots at last count had held f o r w h e g is put =
    let next = next_by l d shots at last f o (map (fields_of l d) (drop at shots)) refl e g h in
    record {
      front = w.front ++ r ∷ [];
      split = w.split ∙ (ap (λ (t : List PackRecord). w.front ++ t)
          (next.are ∙ ap (λ (s : PackRecord). s ∷ records_of (Some f) 0
          (map (fields_of l d) (drop (at + shot_count o) shots))) (sym is))
          ∙ sym (append_assoc w.front (r ∷ []) (records_of (Some f) 0 (map (fields_of l d) (drop (at + shot_count o) shots)))));
      many = omega (arith, w.many, length-append w.front (r ∷ []));
      written = λ told.
          let p = w.written told in
          let q = put told in
          record {
            written = p.written ++ q.written;
            content = q.content ∙ (ap (λ (k : Content). with_written k q.written) p.content ∙ with_written-twice old p.written q.written);
            whole =
                append_assoc p.written q.written held
                ∙ (ap (λ (t : List ℕ). p.written ++ t) q.whole
                ∙ (sym (append_assoc p.written had (record_text r))
                ∙ (ap (λ (t : List ℕ). t ++ record_text r) p.whole
                ∙ (sym (append-nil (flat_map record_text w.front ++ record_text r)) ∙ sym (front_more w.front [] r)))));
          };
    }

pub next_within : (l d : ℕ) (shots : List Trapezoid) (at : ℕ) (f : ShotFields) (o : Option Repetition)
    → at < length shots → map (fields_of l d) (drop at shots) ≡ f ∷ map (fields_of l d) (drop (at + 1) shots)
    → o ≡ repetition_of (map (fields_of l d) (drop at shots)) → at + shot_count o ≤ length shots
next_within l d shots at f o h e g = (next_by l d shots at None f o (map (fields_of l d) (drop at shots)) refl e g h).within

-- a refusal of the next record leaves a prefix of all
pub refused_record : (tells : Type 0) (old now later : Content) (l d : ℕ) (shots : List Trapezoid) (at : ℕ)
    (last : Option ShotFields) (count : ℕ) (had : List ℕ) (f : ShotFields) (o : Option Repetition) (r : PackRecord)
    → WrittenSoFar tells old l d shots at last count had now → at < length shots
    → map (fields_of l d) (drop at shots) ≡ f ∷ map (fields_of l d) (drop (at + 1) shots)
    → o ≡ repetition_of (map (fields_of l d) (drop at shots)) → r ≡ packed_record last f o
    → tells → IsPartWritten now (had ++ record_text r) later → IsPartWritten old (flat_map record_text (packed_records l d shots)) later
refused_record tells old now later l d shots at last count had f o r w h e g is told part =
    let next = next_by l d shots at last f o (map (fields_of l d) (drop at shots)) refl e g h in
    let rest = records_of (Some f) 0 (map (fields_of l d) (drop (at + shot_count o) shots)) in
    let split : packed_records l d shots ≡ w.front ++ r ∷ rest = w.split ∙ ap (λ (t : List PackRecord). w.front ++ t)
    (next.are ∙ ap (λ (s : PackRecord). s ∷ rest) (sym is)) in
    let p = w.written told in
    part_after old now later (flat_map record_text w.front ++ record_text r) (had ++ record_text r)
    (flat_map record_text rest) (flat_map record_text (packed_records l d shots))
    (record {
      written = p.written;
      content = p.content;
      whole = sym (append_assoc p.written had (record_text r)) ∙ ap
          (λ (t : List ℕ). t ++ record_text r) p.whole;
    })
    part (ap (flat_map record_text) split ∙ front_more w.front rest r)

-- a refusal of what is held leaves a prefix of all
pub refused_last : (tells : Type 0) (old now later : Content) (l d : ℕ) (shots : List Trapezoid) (at : ℕ) (last : Option ShotFields) (count : ℕ) (had : List ℕ)
    → WrittenSoFar tells old l d shots at last count had now → tells → IsPartWritten now had later
    → IsPartWritten old (flat_map record_text (packed_records l d shots)) later
refused_last tells old now later l d shots at last count had w told part =
    part_after old now later (flat_map record_text w.front) had
    (flat_map record_text (records_of last 0 (map (fields_of l d) (drop at shots))))
    (flat_map record_text (packed_records l d shots)) (w.written told) part
    (ap (flat_map record_text) w.split ∙ flat_map-append record_text w.front (records_of last 0 (map (fields_of l d) (drop at shots))))

-- where no shot is left, all records are written
no_rest : (l d : ℕ) (last : Option ShotFields) (xs : List Trapezoid) → length xs ≡ 0 → records_of last 0 (map (fields_of l d) xs) ≡ []
no_rest l d last [] e = refl
no_rest l d last (x ∷ xs) e = absurd (omega arith)

pub whole_front : (tells : Type 0) (old now : Content) (l d : ℕ) (shots : List Trapezoid) (at : ℕ) (last : Option ShotFields) (count : ℕ) (had : List ℕ)
    → (w : WrittenSoFar tells old l d shots at last count had now) → length shots ≤ at → packed_records l d shots ≡ w.front
whole_front tells old now l d shots at last count had w h =
    w.split ∙ (ap (λ (t : List PackRecord). w.front ++ t) (no_rest l d last (drop at shots) (omega (arith, length-drop at shots, h))) ∙ append-nil w.front)

pub all_written : (tells : Type 0) (old now later : Content) (l d : ℕ) (shots : List Trapezoid) (at : ℕ) (last : Option ShotFields) (count : ℕ) (had : List ℕ)
    → WrittenSoFar tells old l d shots at last count had now → length shots ≤ at → tells → later ≡ with_written now had
    → later ≡ with_written old (flat_map record_text (packed_records l d shots))
all_written tells old now later l d shots at last count had w h told e =
    all_after old now later (flat_map record_text w.front) had (w.written told) e ∙ ap
    (λ (t : List PackRecord). with_written old (flat_map record_text t))
    (sym (whole_front tells old now l d shots at last count had w h))

pub all_counted : (tells : Type 0) (old now : Content) (l d : ℕ) (shots : List Trapezoid) (at : ℕ) (last : Option ShotFields) (count : ℕ) (had : List ℕ)
    → WrittenSoFar tells old l d shots at last count had now → length shots ≤ at → count ≡ length (packed_records l d shots)
all_counted tells old now l d shots at last count had w h = w.many ∙ ap length (sym (whole_front tells old now l d shots at last count had w h))

-- ---- the file

pub file_text : (unit l d : ℕ) (shots : List Trapezoid) → packed_text unit l d shots ≡ (head unit ++ flat_map record_text (packed_records l d shots)) ++ end
unfolding packed_text
file_text unit l d shots = refl

pub file_written : (old first second last : Content) (name : List ℕ) (unit l d : ℕ) (shots : List Trapezoid)
    → first ≡ with_file old name (head unit)
    → second ≡ with_written first (flat_map record_text (packed_records l d shots)) → last ≡ with_written second end
    → last ≡ with_file old name (packed_text unit l d shots)
file_written old first second last name unit l d shots e f g =
    let records = flat_map record_text (packed_records l d shots) in
    g ∙ (ap (λ (k : Content). with_written k end) (f ∙ (ap (λ (k : Content). with_written k records) e ∙ file_more old name (head unit) records))
    ∙ (file_more old name (head unit ++ records) end ∙ ap (with_file old name) (sym (file_text unit l d shots))))

part_made : (old now : Content) (name bytes : List ℕ) (n : ℕ) → n ≤ length bytes → now ≡ with_file old name (take n bytes) → IsPartMade old name bytes now
part_made old now name bytes n h e = inr (n, h, subst (λ (k : Content). k ≡ with_current (with_file old name (take n bytes)) k.current) (sym e) refl)

-- what is made of a prefix of the text is made of the text
pub made_more : (old now : Content) (name bytes rest whole : List ℕ) → whole ≡ bytes ++ rest → IsPartMade old name bytes now → IsPartMade old name whole now
made_more old now name bytes rest whole e (inl h) = inl h
made_more old now name bytes rest whole e (inr h) = inr (
  h.0,
  omega (arith, h.1, ap length e, length-append bytes rest),
  h.2 ∙ ap (λ (t : List ℕ). with_current (with_file old name t) now.current) (sym (ap (take h.0) e ∙ take-append-le h.0 bytes rest h.1)),
)

pub written_part : (old first now : Content) (name before bytes rest whole : List ℕ)
    → first ≡ with_file old name before → IsPartWritten first bytes now → whole ≡ (before ++ bytes) ++ rest
    → IsPartMade old name whole now
written_part old first now name before bytes rest whole e part w =
    part_made old now name whole (length before + part.0) (omega (arith, ap length w, length-append (before ++ bytes) rest, length-append before bytes, part.1))
    (part.2 ∙ (ap (λ (k : Content). with_written k (take part.0 bytes)) e ∙ (file_more old name before (take part.0 bytes)
    ∙ ap (with_file old name) (part_of before bytes rest part.0 part.1 ∙ ap (take (length before + part.0)) (sym w)))))

-- the two pieces of a record
pub parts_are : (r : PackRecord) (body repetition : List ℕ) → body ≡ body_text r
    → repetition ≡ repetition_text r.repetition → record_text r ≡ body ++ repetition
parts_are r body repetition e f = record_parts r ∙ (ap (λ (t : List ℕ). t ++ repetition_text r.repetition) (sym e) ∙ ap (λ (t : List ℕ). body ++ t) (sym f))

pub whole_parts : (r : PackRecord) (had body repetition : List ℕ) → body ≡ body_text r
    → repetition ≡ repetition_text r.repetition → had ++ record_text r ≡ (had ++ body) ++ repetition
whole_parts r had body repetition e f = ap (λ (t : List ℕ). had ++ t) (parts_are r body repetition e f) ∙ sym (append_assoc had body repetition)

pub records_made : (old first second : Content) (name : List ℕ) (unit l d : ℕ) (shots : List Trapezoid)
    → first ≡ with_file old name (head unit)
    → second ≡ with_written first (flat_map record_text (packed_records l d shots))
    → second ≡ with_file old name (head unit ++ flat_map record_text (packed_records l d shots))
records_made old first second name unit l d shots e f =
    let records = flat_map record_text (packed_records l d shots) in
    f ∙ (ap (λ (k : Content). with_written k records) e ∙ file_more old name (head unit) records)

-- after each refusal a prefix of the text is made, or the name is as before
pub made_head : (old now : Content) (name : List ℕ) (unit l d : ℕ) (shots : List Trapezoid)
    → IsPartMade old name (head unit) now → IsPartMade old name (packed_text unit l d shots) now
made_head old now name unit l d shots p =
    let records = flat_map record_text (packed_records l d shots) in
    made_more old now name (head unit) (records ++ end) (packed_text unit l d shots) (file_text unit l d shots ∙ append_assoc (head unit) records end) p

pub made_records : (old first now : Content) (name : List ℕ) (unit l d : ℕ) (shots : List Trapezoid)
    → first ≡ with_file old name (head unit)
    → IsPartWritten first (flat_map record_text (packed_records l d shots)) now
    → IsPartMade old name (packed_text unit l d shots) now
made_records old first now name unit l d shots e part =
    written_part old first now name (head unit) (flat_map record_text (packed_records l d shots)) end
    (packed_text unit l d shots) e part (file_text unit l d shots)

pub made_end : (old second now : Content) (name : List ℕ) (unit l d : ℕ) (shots : List Trapezoid)
    → second ≡ with_file old name (head unit ++ flat_map record_text (packed_records l d shots))
    → IsPartWritten second end now → IsPartMade old name (packed_text unit l d shots) now
made_end old second now name unit l d shots e part =
    let front = head unit ++ flat_map record_text (packed_records l d shots) in
    written_part old second now name front end [] (packed_text unit l d shots) e part (file_text unit l d shots ∙ sym (append-nil (front ++ end)))
