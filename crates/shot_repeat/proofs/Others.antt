-- Bytes that are no packed shot file of few enough shots have a first fault.
use Rattle.std.proofs.Common.{◌≡◌, ◌≢◌, ℕ, zero, suc, ◌+◌, ◌-◌, ◌<◌, ◌≤◌, ◌^◌, List, [], ◌∷◌, ◌++◌, map, length, take}
use Rattle.std.proofs.Common.{drop, Option, Some, None, unwrap_or, All, refl, arith, ap, sym, ◌∙◌, inl, inr}
use Rattle.std.proofs.Common.{append_assoc, length-append}
use Rattle.std.specs.Prelude.{flat_map}
use Rattle.std.proofs.lemmas.Bool.{cases_lt}
use Rattle.std.proofs.lemmas.List.{append-nil, flat_map_more, length-take-le, map-append}
use Rattle.std.proofs.lemmas.List.Sums.{sum_by-append, sum_by-cons}
use Rattle.std.proofs.lemmas.List.Elements.{All-append}
use Rattle.std.proofs.Math.Seq.{take-append_seam}
use Rattle.half_grid.specs.Trapezoids.{Trapezoid, IsShot}
use Rattle.oas_lex.specs.ShotLaws.{IsNarrowPair}
use Rattle.oas_lex.specs.ShotText.{IsUnit, head, end, fields_of}
use Rattle.shot_reader.specs.Refusals.{BeginsHead, BeginsEnd}
use Rattle.shot_repeat.specs.Laws.{IsNoFile, HasNoFault}
use Rattle.shot_repeat.specs.Packed.{most_of_file}
use Rattle.shot_repeat.specs.Records.{IsNarrowNumber, record_text}
use Rattle.shot_repeat.specs.Refusals.{count_given, IsLegalAfter, IsPackSpelled, IsPackValueFault, IsRight, AreRight, IsPackRecordFault, ArePackRecordsReadUpTo}
use Rattle.shot_repeat.specs.Values.{fields_in, shot_count, step_of, given, all_given}
use Rattle.shot_repeat.specs.declared.record.PackRecord.{PackRecord}
use Rattle.shot_repeat.specs.declared.refusing.PackBad.{PackBad}
use Rattle.shot_repeat.specs.declared.refusing.PackBad.TheVariants as faults
use Rattle.shot_repeat.proofs.Rights.{right_more, right_narrow, right_few, right_defined, up_whole}
use Rattle.shot_repeat.proofs.Gifts.{length_moved, length_map, some_given}
use Rattle.shot_repeat.proofs.Texts.{record_some}

-- ---- the head

-- the bytes begin with no head
abbrev IsHeadless : List ℕ → Type 0
IsHeadless bytes = (unit : ℕ) (after : List ℕ) → IsUnit unit → bytes ≡ head unit ++ after → ⊥

-- of the prefixes that begin some head one is longest
climb : (fuel : ℕ) (bytes : List ℕ) (n : ℕ) → BeginsHead bytes n → length bytes - n ≤ fuel → IsHeadless bytes → HasNoFault bytes → ⊥
climb zero bytes n b few none right =
    right (faults.Head n) (inl (n, refl, record { no_head = none; begins = b; longest = λ m c. omega (arith, c.within, few) }))
climb (suc fuel) bytes n b few none right =
    right (faults.Head n) (inl (
      n,
      refl,
      record {
        no_head = none;
        begins = b;
        longest = λ m c. elim (cases_lt n m) [ inl more ↦ absurd (climb fuel bytes m c (omega (arith, few, more)) none right) | inr le ↦ le ];
      },
    ))

two_is_unit : IsUnit 2
two_is_unit = record { even = refl; some = omega arith; few = omega arith }

none_begins : (bytes : List ℕ) → BeginsHead bytes 0
none_begins bytes = record { within = omega arith; unit = 2; unit_fits = two_is_unit; rest = head 2; text = refl }

headed : (bytes : List ℕ) → IsHeadless bytes → HasNoFault bytes → ⊥
headed bytes none right = climb (length bytes) bytes 0 (none_begins bytes) (omega arith) none right

-- ---- one record more

-- a reading that has come further
record Further (bytes : List ℕ) (at : ℕ) : Type 0 where
  to : ℕ
  records : List PackRecord
  up : ArePackRecordsReadUpTo bytes to records
  more : at < to

front_after : ℕ → List PackRecord → List ℕ
front_after unit records = head unit ++ flat_map record_text records

text_more : (bytes : List ℕ) (at : ℕ) (records : List PackRecord) (u : ArePackRecordsReadUpTo bytes at records) (r : PackRecord)
    (after : List ℕ) → drop at bytes ≡ record_text r ++ after → bytes ≡ front_after u.unit (records ++ r ∷ []) ++ after
unfolding front_after
text_more bytes at records u r after e =
    up_whole bytes at records u
    ∙ (ap (λ (t : List ℕ). head u.unit ++ (flat_map record_text records ++ t)) e
    ∙ (ap (λ (t : List ℕ). head u.unit ++ t) (sym (append_assoc (flat_map record_text records) (record_text r) after))
    ∙ (sym (append_assoc (head u.unit) (flat_map record_text records ++ record_text r) after)
    ∙ ap (λ (t : List ℕ). (head u.unit ++ t) ++ after) (flat_map_more record_text [] records r))))

front_length : (bytes : List ℕ) (at : ℕ) (records : List PackRecord) (u : ArePackRecordsReadUpTo bytes at records) (r : PackRecord)
    → at + length (record_text r) ≡ length (front_after u.unit (records ++ r ∷ []))
unfolding front_after
front_length bytes at records u r =
    let size : length (head u.unit ++ flat_map record_text records) ≡ at = ap length (sym u.text) ∙ length-take-le at bytes u.within in
    let whole : length ((head u.unit ++ flat_map record_text records) ++ record_text r) ≡ length
    (head u.unit ++ flat_map record_text (records ++ r ∷ [])) = ap length
    (flat_map_more record_text (head u.unit) records r) in
    omega (arith, whole, size, length-append (head u.unit ++ flat_map record_text records) (record_text r))

further : (bytes : List ℕ) (at : ℕ) (records : List PackRecord) (u : ArePackRecordsReadUpTo bytes at records) (r : PackRecord)
    (after : List ℕ) → IsRight records r → drop at bytes ≡ record_text r ++ after → Further bytes at
unfolding front_after
further bytes at records u r after h e =
    let front = front_after u.unit (records ++ r ∷ []) in
    let text : bytes ≡ front ++ after = text_more bytes at records u r after e in
    record {
      to = length front;
      records = records ++ r ∷ [];
      up = record {
        within = omega (arith, ap length text, length-append front after);
        unit = u.unit;
        unit_fits = u.unit_fits;
        right = right_more [] records r u.right h;
        text = ap (take (length front)) text ∙ take-append_seam front after;
      };
      more = omega (arith, front_length bytes at records u r, record_some r);
    }

-- END, and each fault of a record, aside: a record follows
one_more : (bytes : List ℕ) (at : ℕ) (records : List PackRecord) → ArePackRecordsReadUpTo bytes at records
    → (drop at bytes ≡ end → ⊥) → HasNoFault bytes → (Further bytes at → ⊥) → ⊥
one_more bytes at records u not_last right last =
    let rest = drop at bytes in
    let wrong : (bad : PackBad) → IsPackRecordFault records rest at bad → ⊥ = λ bad fault. right bad (inr (at, records, u, fault)) in
    let no_end : BeginsEnd rest → ⊥ = λ b. wrong (faults.End at) (inl (refl, b, not_last)) in
    let value : (r : PackRecord) (s : IsPackSpelled rest r) (bad : PackBad) → IsPackValueFault records r at bad
    → ⊥ = λ r s bad v. wrong bad (inr (inr (inr (r, s, v)))) in
    let spelled : (r : PackRecord) → IsPackSpelled rest r → ⊥ = λ r s.
    value r s (faults.Undefined at) (inl (
      refl,
      λ d.
          value r s (faults.Pair at) (inr (
            d,
            inl (
              refl,
              λ p.
                  value r s (faults.Many at) (inr (
                    d,
                    inr (
                      p,
                      inl (
                        refl,
                        λ f.
                            value r s (faults.Illegal at) (inr (
                              d,
                              inr (
                                p,
                                inr (
                                  f,
                                  refl,
                                  λ l.
                                      last (further bytes at records u r s.after
                                      (record { narrow = s.narrow; defined = d; pair = p; few = f; legal = l })
                                      s.text),
                                ),
                              ),
                            )),
                      ),
                    ),
                  )),
            ),
          )),
    )) in
    wrong (faults.Record at) (inr (inl (refl, no_end, λ whole. wrong (faults.Spelling at) (inr (inr (inl (refl, whole, spelled)))))))

-- ---- the shots of records with which nothing is wrong

record Gathered (before records : List PackRecord) (l d : ℕ) : Type 0 where
  shots : List Trapezoid
  legal : All IsShot shots
  are : map (fields_of l d) shots ≡ all_given before records

legal_by : (before : List PackRecord) (r : PackRecord) (l d : ℕ) (legal : IsLegalAfter before r)
    → l ≡ (fields_in before r).layer → d ≡ (fields_in before r).datatype
    → map (fields_of l d) legal.shots ≡ given before r
legal_by before r l d legal e f =
    ap (λ (n : ℕ). map (fields_of n d) legal.shots) e ∙ (ap (λ (n : ℕ). map (fields_of (fields_in before r).layer n) legal.shots) f ∙ legal.are)

join : (before rest : List PackRecord) (r : PackRecord) (l d : ℕ) (legal : IsLegalAfter before r)
    → l ≡ (fields_in before r).layer → d ≡ (fields_in before r).datatype → Gathered (before ++ r ∷ []) rest l d
    → Gathered before (r ∷ rest) l d
join before rest r l d legal e f g = record {
  shots = legal.shots ++ g.shots;
  legal = All-append IsShot legal.shots g.shots legal.legal g.legal;
  are = map-append (fields_of l d) legal.shots g.shots
      ∙ (ap (λ (t : List _). t ++ map (fields_of l d) g.shots) (legal_by before r l d legal e f) ∙ ap (λ (t : List _). given before r ++ t) g.are);
}

gather : (b : PackRecord) (before records : List PackRecord) (l d : ℕ) → AreRight (b ∷ before) records
    → l ≡ (fields_in [] b).layer → d ≡ (fields_in [] b).datatype → Gathered (b ∷ before) records l d
gather b before [] l d h e f = record { shots = []; legal = λ k x below. absurd (omega arith); are = refl }
gather b before (r ∷ rest) l d h e f =
    join (b ∷ before) rest r l d h.0.legal (e ∙ h.0.pair.0) (f ∙ h.0.pair.1) (gather b (before ++ r ∷ []) rest l d h.1 e f)

total : (before records : List PackRecord) → AreRight before records → count_given before ≤ most_of_file → count_given (before ++ records) ≤ most_of_file
total before [] h few = omega (arith, few, ap count_given (append-nil before))
total before (r ∷ rest) h few =
    let more : count_given (before ++ r ∷ []) ≤ most_of_file = omega
    (arith, h.0.few.all, sum_by-append (λ (s : PackRecord). shot_count s.repetition) before (r ∷ [])) in
    omega (arith, total (before ++ r ∷ []) rest h.1 more, ap count_given (append_assoc before (r ∷ []) rest))

length_given : (before records : List PackRecord) → length (all_given before records) ≡ count_given records
length_given before [] = refl
length_given before (r ∷ rest) =
    omega (
      arith,
      length-append (given before r) (all_given (before ++ r ∷ []) rest),
      length_moved (fields_in before r)
          (step_of r.repetition) 0 (shot_count r.repetition),
      length_given (before ++ r ∷ []) rest,
      sum_by-cons
          (λ (s : PackRecord). shot_count s.repetition) r rest,
    )

narrow_own : (o : Option ℕ) → IsNarrowNumber o → unwrap_or o 0 < 2 ^ 63
narrow_own None h = omega arith
narrow_own (Some n) h = h

gathered_some : (r : PackRecord) (rest : List PackRecord) (l d : ℕ) (g : Gathered [] (r ∷ rest) l d) → g.shots ≢ []
gathered_some r rest l d g e =
    let none : length (all_given [] (r ∷ rest)) ≡ 0 = sym (ap length g.are) ∙ ap (λ (t : List Trapezoid). length (map (fields_of l d) t)) e in
    omega (arith, none, length_given [] (r ∷ rest), sum_by-cons (λ (s : PackRecord). shot_count s.repetition) r rest, some_given r.repetition)

-- what was read up to END is a packed shot file
file_here : (bytes : List ℕ) (at : ℕ) (records : List PackRecord) → ArePackRecordsReadUpTo bytes at records → drop at bytes ≡ end → IsNoFile bytes → ⊥
file_here bytes at [] u e none = none u.unit None [] (record {
  stands = record {
    unit_fits = u.unit_fits;
    legal = λ k x below. absurd (omega arith);
    pair_fits = refl;
    layer = 0;
    datatype = 0;
    agrees = tt;
    records = [];
    narrow = λ k x below. absurd (omega arith);
    defined = tt;
    shots_given = refl;
    text = up_whole bytes at [] u ∙ (ap (λ (t : List ℕ). head u.unit ++ (flat_map record_text [] ++ t)) e ∙ sym
        (append_assoc (head u.unit) (flat_map record_text []) end));
  };
  few_each = λ k x below. absurd (omega arith);
  few = omega arith;
})
file_here bytes at (r ∷ rest) u e none =
    let l = (fields_in [] r).layer in
    let d = (fields_in [] r).datatype in
    let g = join [] rest r l d u.right.0.legal refl refl (gather r [] rest l d u.right.1 refl refl) in
    let narrow : IsNarrowPair l d =
    record {
      layer_bits = narrow_own r.layer u.right.0.narrow.layer;
      datatype_bits =
          narrow_own r.datatype u.right.0.narrow.datatype;
    } in
    none u.unit (Some (record { layer = l; datatype = d })) g.shots (record {
      stands = record {
        unit_fits = u.unit_fits;
        legal = g.legal;
        pair_fits = (gathered_some r rest l d g, narrow);
        layer = l;
        datatype = d;
        agrees = (refl, refl);
        records = r ∷ rest;
        narrow = right_narrow [] (r ∷ rest) u.right;
        defined = right_defined [] (r ∷ rest) u.right;
        shots_given = g.are;
        text = up_whole bytes at
            (r ∷ rest) u ∙ (ap (λ (t : List ℕ). head u.unit ++ (flat_map record_text (r ∷ rest) ++ t)) e ∙ sym
            (append_assoc (head u.unit) (flat_map record_text (r ∷ rest)) end));
      };
      few_each = right_few [] (r ∷ rest) u.right;
      few = omega (arith, sym (length_map (fields_of l d) g.shots), ap length g.are, length_given [] (r ∷ rest), total [] (r ∷ rest) u.right (omega arith));
    })

go_on : (fuel : ℕ) (bytes : List ℕ) (at : ℕ) (records : List PackRecord) → ArePackRecordsReadUpTo bytes at records
    → length bytes - at ≤ fuel → IsNoFile bytes → HasNoFault bytes → ⊥
go_on zero bytes at records u few none right = one_more bytes at records u
    (λ e. file_here bytes at records u e none) right (λ m. omega (arith, m.more, m.up.within, few))
go_on (suc fuel) bytes at records u few none right =
    one_more bytes at records u (λ e. file_here bytes at records u e none) right
    (λ m. go_on fuel bytes m.to m.records m.up (omega (arith, m.more, few)) none right)

head_read : (bytes : List ℕ) (unit : ℕ) (after : List ℕ) → IsUnit unit → bytes ≡ head unit ++ after → ArePackRecordsReadUpTo bytes (length (head unit)) []
head_read bytes unit after h e = record {
  within = omega (arith, ap length e, length-append (head unit) after);
  unit = unit;
  unit_fits = h;
  right = tt;
  text = ap (take (length (head unit))) e ∙ (take-append_seam (head unit) after ∙ sym (append-nil (head unit)));
}

pub never_neither : (bytes : List ℕ) → IsNoFile bytes → HasNoFault bytes → ⊥
never_neither bytes none right =
    headed bytes (λ unit after h e. go_on (length bytes) bytes (length (head unit)) [] (head_read bytes unit after h e) (omega arith) none right) right
