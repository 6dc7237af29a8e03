-- From what the reader keeps to what bytes hold.
use Rattle.std.proofs.Common.{◌≡◌, ℕ, ◌*◌, ◌^◌, ◌<◌, ◌≤◌, List, [], ◌∷◌, ◌++◌, map, reverse, length, Option, Some, None}
use Rattle.std.proofs.Common.{Result, Ok, Err, refl, sym, ap, subst, ◌∙◌, ◌⊎◌, inl, inr, arith}
use Rattle.std.specs.Prelude.{◌≢◌, IsSome, IfOk, All, slice_index}
use Rattle.std.proofs.lemmas.List.{reverse-reverse}
use Rattle.layout_model.specs.declared.pair.Pair.{Pair}
use Rattle.layout_model.specs.declared.cells.Layout.{Layout}
use Rattle.layout_model.specs.declared.cells.Cell.{Cell}
use Rattle.layout_model.specs.Layouts.{IsLayoutOnGrid, IsCellOnGrid, AreDistinct}
use Rattle.geo_stream.specs.Refusals.{IsForFault, IfFault}
use Rattle.geo_stream.specs.declared.refusal.Refusal.{Refusal}
use Rattle.geo_stream.specs.declared.refusal.Refusal.TheVariants.{Fault, NoMemory}
use Rattle.gds_record.specs.Faults.{IsFaultAt}
use Rattle.gds_record.specs.Framing.{IsRecordAt}
use Rattle.gds_record.specs.Runs.{AreRecordsEndToEnd, NoRecordEnds, IsLibraryClosed, IsRecordsOf}
use Rattle.gds_record.specs.declared.kinds.Kind.TheVariants.{EndLib, Text, Node, Box, PropAttr}
use Rattle.gds_record.specs.declared.records.Framing.{Framing}
use Rattle.gds_record.specs.declared.records.Record.{Record}
use Rattle.gds_record.proofs.ForCallers.{content_allowed, record_within, number_at-lt, run_push, none_ends-push, records_closed, closed_push}
use Rattle.gds_reader.specs.declared.order.Place.{Place}
use Rattle.gds_reader.specs.declared.order.Place.TheVariants as places
use Rattle.gds_reader.specs.declared.reading.Reader.{Reader}
use Rattle.gds_reader.specs.declared.refusing.GdsBad.{GdsBad}
use Rattle.gds_reader.specs.declared.refusing.GdsBad.TheVariants.{Tail, Twice}
use Rattle.gds_reader.specs.Grammar.{IsBeginning}
use Rattle.layout_model.specs.Pairs.{AreSamePairs}
use Rattle.layout_model.specs.Counting.{AreAtMost}
use Rattle.gds_reader.specs.Elements.{IsHeld}
use Rattle.gds_reader.specs.Meaning.{layout_of, cells_of, counts_of, is_kept, is_other, wanted_at}
use Rattle.gds_reader.specs.Past.{has_kind}
use Rattle.gds_reader.specs.Readers.{IsReaderOf, IsTaken, IsRefused, IsStanding, IsTail, place_behind, next_after}
use Rattle.gds_reader.specs.Reading.{kinds_of, IsRecordAllowed, AreRecordsAllowed, IsGdsiiLayoutOf, AreRecordsReadUpTo, IsNext, IsFault, IsFirstGdsiiFault, framing_fault}
use Rattle.gds_reader.specs.Steps.{next_place}
use Rattle.gds_reader.proofs.CellLemmas.{count_few, names_distinct}
use Rattle.gds_reader.proofs.FaultLemmas.{one_layout, one_fault, no_layout_with_fault}
use Rattle.gds_reader.proofs.PlaceLemmas.{LeadsTo, leads_first, leads_next, leads_begin, leads_nowhere, leads_end, end_next}
use Rattle.gds_reader.proofs.RunLemmas.{reverse_more, kinds_reverse}
use Rattle.gds_reader.proofs.TableLemmas.{found_name, not_named}

-- ---- the order

leads_more : (past : List Record) (r : Record) (b : Option Place) (place : Place) → place_behind past ≡ b → next_after b r ≡ Some place
    → ((p : Place) → place_behind past ≡ Some p → LeadsTo (kinds_of (reverse past)) p) → LeadsTo (kinds_of (reverse (r ∷ past))) place
leads_more past r None place e f leads = absurd (cc)
leads_more past r (Some p) place e f leads =
    subst (λ kinds. LeadsTo kinds place) (sym (kinds_reverse r past)) (leads_next (kinds_of (reverse past)) p place r.kind (leads p e) f)

pub leads : (past : List Record) (place : Place) → place_behind past ≡ Some place → LeadsTo (kinds_of (reverse past)) place
leads [] place e = let first : places.Header ≡ place = cc in subst (LeadsTo []) first leads_first
leads (r ∷ past) place e = leads_more past r (place_behind past) place refl e (λ p f. leads past p f)

next_begins : (past : List Record) (r : Record) (b : Option Place) → next_after (place_behind past) r ≡ b → IsSome b
    → IsBeginning (kinds_of (reverse (r ∷ past)))
next_begins past r None e some = absurd (cc)
next_begins past r (Some place) e some = leads_begin (kinds_of (reverse (r ∷ past))) place (leads (r ∷ past) place e)

pub next_stands : (bytes : List ℕ) (past : List Record) (at : ℕ) (r : Record) → IsRecordAt bytes at r → IsSome (next_after (place_behind past) r)
    → IsNext bytes past at r
next_stands bytes past at r stands some = record { stands = stands; order = next_begins past r (next_after (place_behind past) r) refl some }

pub no_next : (past : List Record) (r : Record) (place : Place) → place_behind past ≡ Some place → next_after (place_behind past) r ≡ None
    → ¬ IsBeginning (kinds_of (reverse (r ∷ past)))
no_next past r place e none begins =
    let nowhere : next_place place r.kind ≡ None = sym (ap (λ p. next_after p r) e) ∙ none in
    leads_nowhere (kinds_of (reverse past)) place r.kind (leads past place e) nowhere (subst IsBeginning (kinds_reverse r past) begins)

-- ---- refusals

pub refused_fault : (bytes : List ℕ) (unit : ℕ) (wanted : List Pair) (past : List Record) (at : ℕ) (r : Record) (place : Place) (bad : GdsBad)
    → place_behind past ≡ Some place → IsRecordAt bytes at r → IsRefused bytes unit wanted past r at bad → IsFault bytes unit wanted past at bad
refused_fault bytes unit wanted past at r place bad e stands (inl f) =
    inr (inl (record { r = r; stands = stands; order = no_next past r place e f.none; bad_is = f.bad_is }))
refused_fault bytes unit wanted past at r place bad e stands (inr (inl f)) =
    inr (inr (inl (record { r = r; next = next_stands bytes past at r stands f.some; rule = f.rule; broken = f.broken; bad_is = f.bad_is })))
refused_fault bytes unit wanted past at r place bad e stands (inr (inr (inl f))) =
    inr (inr (inr (inl (record {
      r = r;
      next = next_stands bytes past at r stands f.some;
      rules = f.rules;
      kind = f.kind;
      disagrees = f.disagrees;
      bad_is = f.bad_is;
    }))))
refused_fault bytes unit wanted past at r place bad e stands (inr (inr (inr f))) =
    let found = found_name bytes r f.first past f.found in
    inr (inr (inr (inr (inl (record {
      r = r;
      next = next_stands bytes past at r stands f.some;
      rules = f.rules;
      kind = f.kind;
      before = found.before;
      earlier = found.earlier;
      after = found.after;
      among = found.among;
      same = found.same;
      bad_is = f.bad_is ∙ ap (λ first. Twice first at) found.first_is;
    })))))

pub taken_allowed : (bytes : List ℕ) (unit : ℕ) (wanted : List Pair) (past : List Record) (r : Record) → IsTaken bytes unit wanted past r
    → IsRecordAllowed bytes unit wanted past r
taken_allowed bytes unit wanted past r t = record {
  rules = t.rules;
  unit_agrees = t.unit_agrees;
  new_name = λ kind. not_named bytes r past (t.new_name kind);
}

-- ---- where the reader stands

pub read_up_to : (bytes : List ℕ) (unit : ℕ) (wanted sorted : List Pair) (at : ℕ) (reader : Reader) → (s : IsStanding bytes unit sorted at reader)
    → AreSamePairs wanted sorted → AreRecordsReadUpTo bytes unit wanted s.past at
read_up_to bytes unit wanted sorted at reader s same = record {
  run = s.run;
  goes_on = s.goes_on;
  order = leads_begin (kinds_of (reverse s.past)) reader.place (leads s.past reader.place (s.reader_is wanted same).place);
  allowed = s.allowed wanted same;
}

pub framing_first : (bytes : List ℕ) (unit : ℕ) (wanted sorted : List Pair) (at : ℕ) (reader : Reader) (fault : Framing) (bad : GdsBad)
    → IsStanding bytes unit sorted at reader → AreSamePairs wanted sorted → IsFaultAt bytes at fault → bad ≡ framing_fault fault at
    → IsFirstGdsiiFault bytes unit wanted bad
framing_first bytes unit wanted sorted at reader fault bad s same is bad_is = record {
  past = s.past;
  at = at;
  read = read_up_to bytes unit wanted sorted at reader s same;
  fault = inl (fault, is, bad_is);
}

pub refused_first : (bytes : List ℕ) (unit : ℕ) (wanted sorted : List Pair) (at : ℕ) (reader : Reader) (r : Record) (refusal : Refusal GdsBad)
    → (s : IsStanding bytes unit sorted at reader) → AreSamePairs wanted sorted → IsRecordAt bytes at r
    → IsForFault (IsRefused bytes unit wanted s.past r at) refusal → IsForFault (IsFirstGdsiiFault bytes unit wanted) refusal
refused_first bytes unit wanted sorted at reader r (Fault bad) s same stands refused = record {
  past = s.past;
  at = at;
  read = read_up_to bytes unit wanted sorted at reader s same;
  fault = refused_fault bytes unit wanted s.past at r reader.place bad (s.reader_is wanted same).place stands refused;
}
refused_first bytes unit wanted sorted at reader r NoMemory s same stands refused = tt

-- a record that stands is held
pub held : (bytes : List ℕ) (at : ℕ) (r : Record) → ((i : ℕ) → slice_index bytes i < 256) → IsRecordAt bytes at r → IsHeld bytes r
held bytes at r small stands = record {
  ordered = omega (arith, stands.first, stands.next, stands.whole.sized.least);
  within = record_within bytes at r stands;
  content = content_allowed bytes at r stands;
  short = omega (arith, stands.first, stands.next, number_at-lt 2 bytes at small);
}

-- one more record
pub stands_on : (bytes : List ℕ) (unit : ℕ) (sorted : List Pair) (at : ℕ) (old new : Reader) (r : Record) → (s : IsStanding bytes unit sorted at old)
    → IsRecordAt bytes at r → r.kind ≢ EndLib
    → ((wanted : List Pair) → AreSamePairs wanted sorted → IsReaderOf bytes wanted (r ∷ s.past) new)
    → ((wanted : List Pair) → AreSamePairs wanted sorted → IsTaken bytes unit wanted s.past r)
    → IsStanding bytes unit sorted r.next new
stands_on bytes unit sorted at old new r s stands more reader_is taken = record {
  past = r ∷ s.past;
  run = subst (λ rs. AreRecordsEndToEnd bytes 0 rs r.next) (sym (reverse_more r s.past)) (run_push bytes 0 (reverse s.past) at r s.run stands);
  goes_on = subst NoRecordEnds (sym (reverse_more r s.past)) (none_ends-push (reverse s.past) r s.goes_on more);
  few = omega (arith, s.few, stands.next, stands.whole.sized.least);
  within = record_within bytes at r stands;
  allowed = λ wanted same. (taken_allowed bytes unit wanted s.past r (taken wanted same), s.allowed wanted same);
  reader_is = reader_is;
}

pub few_counts : (bytes : List ℕ) (wanted : List Pair) (past : List Record) (at : ℕ) → 4 * length past ≤ at → at < 2 ^ 64
    → AreAtMost (2 ^ 63) (counts_of bytes wanted past)
few_counts bytes wanted past at few fits = record {
  kept = omega (arith, count_few (λ before r. is_kept (wanted_at bytes wanted before r)) past);
  other = omega (arith, count_few (λ before r. is_other (wanted_at bytes wanted before r)) past);
  texts = omega (arith, count_few (λ _ r. has_kind Text r) past);
  nodes = omega (arith, count_few (λ _ r. has_kind Node r) past);
  boxes = omega (arith, count_few (λ _ r. has_kind Box r) past);
  properties = omega (arith, count_few (λ _ r. has_kind PropAttr r) past);
}

-- ---- the end of the library

-- the last record has been taken
pub record IsEnded (bytes : List ℕ) (unit : ℕ) (sorted : List Pair) (at : ℕ) (reader : Reader) : Type 0 where
  pub past : List Record
  pub from : ℕ
  pub r : Record
  pub stands : IsRecordAt bytes from r
  pub run : AreRecordsEndToEnd bytes 0 (reverse past) from
  pub goes_on : NoRecordEnds (reverse past)
  pub next_is : r.next ≡ at
  pub end : r.kind ≡ EndLib
  pub allowed : (wanted : List Pair) → AreSamePairs wanted sorted → AreRecordsAllowed bytes unit wanted (r ∷ past)
  pub reader_is : (wanted : List Pair) → AreSamePairs wanted sorted → IsReaderOf bytes wanted (r ∷ past) reader

pub ended_place : (past : List Record) (r : Record) (b : Option Place) (place : Place) → place_behind past ≡ b → next_after b r ≡ Some place → r.kind ≡ EndLib
    → place ≡ places.End
ended_place past r None place e f end = absurd (cc)
ended_place past r (Some p) place e f end = end_next p place (subst (λ k. next_place p k ≡ Some place) end f)

begins_before : (past : List Record) (r : Record) (b : Option Place) → place_behind past ≡ b → IsSome (next_after b r)
    → IsBeginning (kinds_of (reverse past))
begins_before past r None e some = absurd (cc)
begins_before past r (Some place) e some = leads_begin (kinds_of (reverse past)) place (leads past place e)

pub ended_layout : (bytes : List ℕ) (unit : ℕ) (wanted sorted : List Pair) (at : ℕ) (reader : Reader) (layout : Layout)
    → IsEnded bytes unit sorted at reader → AreSamePairs wanted sorted
    → ((k : ℕ) → at ≤ k → k < length bytes → slice_index bytes k ≡ 0)
    → layout.cells ≡ reader.cells → layout.counts ≡ reader.counts → IsGdsiiLayoutOf bytes unit wanted layout
ended_layout bytes unit wanted sorted at reader layout s same blank cells counts =
    let is = s.reader_is wanted same in
    let turned : reverse (reverse (s.r ∷ s.past)) ≡ s.r ∷ s.past = reverse-reverse (s.r ∷ s.past) in
    let more : reverse (s.r ∷ s.past) ≡ reverse s.past ++ s.r ∷ [] = reverse_more s.r s.past in
    let place : reader.place ≡ places.End = ended_place s.past s.r (place_behind s.past) reader.place refl is.place s.end in
    record {
      records = reverse (s.r ∷ s.past);
      framed = record {
        to = s.r.next;
        records = subst (λ rs. IsRecordsOf bytes rs s.r.next) (sym more) (records_closed bytes (reverse s.past) s.from s.r s.run s.goes_on s.stands s.end);
        closed = subst IsLibraryClosed (sym more) (closed_push (reverse s.past) s.r s.end);
        blank = λ k behind within. blank k (subst (λ n. n ≤ k) s.next_is behind) within;
      };
      order = leads_end (kinds_of (reverse (s.r ∷ s.past)))
          (subst (LeadsTo (kinds_of (reverse (s.r ∷ s.past)))) place (leads (s.r ∷ s.past) reader.place is.place));
      allowed = subst (AreRecordsAllowed bytes unit wanted) (sym turned) (s.allowed wanted same);
      layout_is =
          ap (λ cs. let l : Layout = record { cells = cs; counts = layout.counts } in l) (cells ∙ is.cells)
          ∙ ap (λ n. let l : Layout = record { cells = cells_of bytes wanted (s.r ∷ s.past); counts = n } in l) (counts ∙ is.counts)
          ∙ ap (layout_of bytes wanted) (sym turned);
    }

pub ended_tail : (bytes : List ℕ) (unit : ℕ) (wanted sorted : List Pair) (at tail : ℕ) (reader : Reader) (bad : GdsBad)
    → IsEnded bytes unit sorted at reader → AreSamePairs wanted sorted → at ≤ tail → tail < length bytes → slice_index bytes tail ≢ 0
    → ((k : ℕ) → at ≤ k → k < tail → slice_index bytes k ≡ 0) → bad ≡ Tail tail → IsFirstGdsiiFault bytes unit wanted bad
ended_tail bytes unit wanted sorted at tail reader bad s same behind within nonzero zeros bad_is =
    let is = s.reader_is wanted same in
    let allowed = s.allowed wanted same in
    let some : IsSome (next_after (place_behind s.past) s.r) = subst (λ p. IsSome p) (sym is.place) refl in
    let next = next_stands bytes s.past s.from s.r s.stands some in
    record {
      past = s.past;
      at = s.from;
      read = record { run = s.run; goes_on = s.goes_on; order = begins_before s.past s.r (place_behind s.past) refl some; allowed = allowed.1 };
      fault = inr (inr (inr (inr (inr (record {
        r = s.r;
        next = next;
        allowed = allowed.0;
        kind = s.end;
        tail = tail;
        behind = subst (λ n. n ≤ tail) (sym s.next_is) behind;
        within = within;
        nonzero = nonzero;
        zeros = λ k from below. zeros k (subst (λ n. n ≤ k) s.next_is from) below;
        bad_is = bad_is;
      })))));
    }

-- ---- answers

pub ended_ok : (bytes : List ℕ) (unit : ℕ) (wanted sorted : List Pair) (at : ℕ) (reader : Reader) (result : Result Layout (Refusal GdsBad))
    → IsEnded bytes unit sorted at reader → AreSamePairs wanted sorted
    → IfOk result (λ layout. layout.cells ≡ reader.cells) → IfOk result (λ layout. layout.counts ≡ reader.counts)
    → IfOk result (λ _. (k : ℕ) → at ≤ k → k < length bytes → slice_index bytes k ≡ 0)
    → IfOk result (λ layout. IsGdsiiLayoutOf bytes unit wanted layout)
ended_ok bytes unit wanted sorted at reader (Err bad) s same cells counts blank = tt
ended_ok bytes unit wanted sorted at reader (Ok layout) s same cells counts blank =
    ended_layout bytes unit wanted sorted at reader layout s same blank cells counts

pub ended_grid : (bytes : List ℕ) (unit : ℕ) (sorted : List Pair) (at : ℕ) (reader : Reader) (result : Result Layout (Refusal GdsBad))
    → IsEnded bytes unit sorted at reader → IfOk result (λ layout. layout.cells ≡ reader.cells) → IfOk result IsLayoutOnGrid
ended_grid bytes unit sorted at reader (Err bad) s cells = tt
ended_grid bytes unit sorted at reader (Ok layout) s cells =
    let same : AreSamePairs sorted sorted = λ pair. refl in
    let is = s.reader_is sorted same in
    record {
      cells = subst (All IsCellOnGrid) (sym cells) is.cells_grid;
      names = subst (λ (cs : List Cell). AreDistinct (map (λ (cell : Cell). cell.name) cs)) (sym (cells ∙ is.cells))
          (names_distinct bytes unit sorted (s.r ∷ s.past) (s.allowed sorted same));
    }

pub ended_bad : (bytes : List ℕ) (unit : ℕ) (wanted sorted : List Pair) (at : ℕ) (reader : Reader) (result : Result Layout (Refusal GdsBad))
    → IsEnded bytes unit sorted at reader → AreSamePairs wanted sorted → IfFault result (IsTail bytes at)
    → IfFault result (IsFirstGdsiiFault bytes unit wanted)
ended_bad bytes unit wanted sorted at reader (Ok layout) s same tail = tt
ended_bad bytes unit wanted sorted at reader (Err (Fault bad)) s same t =
    ended_tail bytes unit wanted sorted at t.0 reader bad s same t.2 t.3 t.4 t.5 t.1
ended_bad bytes unit wanted sorted at reader (Err NoMemory) s same tail = tt

pub every_layout : (bytes : List ℕ) (unit : ℕ) (wanted : List Pair) (result : Result Layout (Refusal GdsBad))
    → IfOk result (λ layout. IsGdsiiLayoutOf bytes unit wanted layout) → IfFault result (IsFirstGdsiiFault bytes unit wanted)
    → (layout : Layout) → IsGdsiiLayoutOf bytes unit wanted layout → (result ≡ Ok layout) ⊎ (result ≡ Err NoMemory)
every_layout bytes unit wanted (Ok one) found fault layout is = inl (ap Ok (one_layout bytes unit wanted one layout found is))
every_layout bytes unit wanted (Err (Fault bad)) found fault layout is = absurd (no_layout_with_fault bytes unit wanted layout bad is fault)
every_layout bytes unit wanted (Err NoMemory) found fault layout is = inr refl

pub every_first_fault : (bytes : List ℕ) (unit : ℕ) (wanted : List Pair) (result : Result Layout (Refusal GdsBad))
    → IfOk result (λ layout. IsGdsiiLayoutOf bytes unit wanted layout) → IfFault result (IsFirstGdsiiFault bytes unit wanted)
    → (bad : GdsBad) → IsFirstGdsiiFault bytes unit wanted bad → (result ≡ Err (Fault bad)) ⊎ (result ≡ Err NoMemory)
every_first_fault bytes unit wanted (Ok layout) found fault bad is = absurd (no_layout_with_fault bytes unit wanted layout bad found is)
every_first_fault bytes unit wanted (Err (Fault one)) found fault bad is =
    inl (ap (λ one. Err (Fault one)) (one_fault bytes unit wanted one bad fault is))
every_first_fault bytes unit wanted (Err NoMemory) found fault bad is = inr refl
