-- From what the reader keeps to what the bytes hold.
use Rattle.std.proofs.Common.{◌≡◌, ℕ, ◌^◌, ◌<◌, ◌≤◌, true, false, List, [], ◌∷◌, length, take, Result, Ok, Err}
use Rattle.std.proofs.Common.{refl, sym, ap, subst, ◌⊎◌, inl, inr, arith}
use Rattle.std.specs.Prelude.{IfOk}
use Rattle.std.proofs.lemmas.List.{length-take}
use Rattle.geo_stream.specs.Refusals.{IsForFault, IfFault}
use Rattle.geo_stream.specs.declared.refusal.Refusal.{Refusal}
use Rattle.geo_stream.specs.declared.refusal.Refusal.TheVariants.{Fault, NoMemory}
use Rattle.layout_model.specs.declared.cells.Layout.{Layout}
use Rattle.layout_model.specs.declared.pair.Pair.{Pair}
use Rattle.oas_record.specs.Laws.{OneRecord, RecordOrFault, OneFault as OneCause}
use Rattle.oas_record.specs.Records.{HasRecord, NoRecord}
use Rattle.oas_record.specs.declared.faults.RecordBad.{RecordBad}
use Rattle.oas_record.specs.declared.records.OasRecord.{OasRecord}
use Rattle.oas_record.proofs.ForCallers.{one_record}
use Rattle.layout_model.specs.Pairs.{AreSamePairs}
use Rattle.layout_model.specs.Counting.{AreAtMost}
use Rattle.oas_reader.specs.Files.{lexical_refusal, HaveRecords, IsStanding, IsLayoutBehind}
use Rattle.oas_reader.specs.Items.{Item, records_in, tables_at_end, magic, is_end}
use Rattle.oas_reader.specs.Names.{is_unnumbered}
use Rattle.oas_reader.specs.Order.{is_in_order}
use Rattle.oas_reader.specs.Readers.{IsReaderOf, IsReaderWithin}
use Rattle.oas_reader.specs.Reading.{item, IsItemAllowed, AreItemsReadUpTo, IsWholeFile, IsOasisLayoutOf, IsRefused, IsFaultOfNames, IsFirstOasisFault}
use Rattle.oas_reader.specs.declared.reading.Reader.{Reader}
use Rattle.oas_reader.specs.declared.refusing.OasBad.{OasBad}
use Rattle.oas_reader.proofs.CountLemmas.{count_few, items_few, counts_few}
use Rattle.oas_reader.proofs.LawLemmas.{one_layout, one_fault, no_layout_with_fault}

-- ---- the laws of records

one_law : OneRecord
one_law bytes at tables r s next last h k =
    let same = (one_record bytes at tables).one (r, next) (s, last) h k in (ap (λ p. p.0) same, ap (λ p. p.1) same)

apart_law : RecordOrFault
apart_law bytes at tables r next bad h f = (one_record bytes at tables).apart (r, next) bad h f

cause_law : OneCause
cause_law bytes at tables = (one_record bytes at tables).cause

-- ---- the first record

magic_long : (bytes : List ℕ) → take 13 bytes ≡ magic → 13 ≤ length bytes
magic_long bytes e = let size : length (take 13 bytes) ≡ 13 = ap length e in omega (arith, size, length-take 13 bytes)

pub stands_first : (bytes : List ℕ) (unit : ℕ) (sorted : List Pair) (reader : Reader) → take 13 bytes ≡ magic → IsReaderWithin bytes reader
    → ((wanted : List Pair) → IsReaderOf bytes wanted [] reader) → IsStanding bytes unit sorted 13 reader
stands_first bytes unit sorted reader begins within are = record {
  past = [];
  begins = begins;
  run = refl;
  goes_on = tt;
  few = omega arith;
  least = magic_long bytes begins;
  within = within;
  allowed = λ wanted same. tt;
  reader_is = λ wanted same. are wanted;
}

-- ---- what a reader that stands gives

own_pairs : (sorted : List Pair) → AreSamePairs sorted sorted
own_pairs sorted pair = refl

pub have_records : (bytes : List ℕ) (unit : ℕ) (sorted : List Pair) (at : ℕ) (reader : Reader) → IsStanding bytes unit sorted at reader
    → HaveRecords reader.fields
have_records bytes unit sorted at reader s =
    record { past = records_in s.past; values = (s.reader_is sorted (own_pairs sorted)).fields }

pub counted_few : (bytes : List ℕ) (unit : ℕ) (sorted : List Pair) (at : ℕ) (reader : Reader) → IsStanding bytes unit sorted at reader
    → length bytes < 2 ^ 63 → reader.names.counted < 2 ^ 63
counted_few bytes unit sorted at reader s small =
    let counted = (s.reader_is sorted (own_pairs sorted)).names.counted in
    let few = count_few (λ _ r. is_unnumbered r) (records_in s.past) in
    let same = items_few s.past in
    let less = s.few in
    let least = s.least in
    omega (arith, counted, few, same, less, least, small)

pub counts_small : (bytes : List ℕ) (unit : ℕ) (sorted : List Pair) (at : ℕ) (reader : Reader) → IsStanding bytes unit sorted at reader
    → length bytes < 2 ^ 63 → AreAtMost (2 ^ 63) reader.counts
counts_small bytes unit sorted at reader s small =
    let few = s.few in
    let least = s.least in
    subst (AreAtMost (2 ^ 63)) (sym (s.reader_is sorted (own_pairs sorted)).counts)
    (counts_few sorted s.past (2 ^ 63) (omega (arith, few, least, small)))

read_up_to : (bytes : List ℕ) (unit : ℕ) (wanted sorted : List Pair) (at : ℕ) (reader : Reader) → (s : IsStanding bytes unit sorted at reader)
    → AreSamePairs wanted sorted → AreItemsReadUpTo bytes unit wanted s.past at
read_up_to bytes unit wanted sorted at reader s same = record {
  begins = s.begins;
  run = s.run;
  goes_on = s.goes_on;
  allowed = s.allowed wanted same;
}

stands_there : (bytes : List ℕ) (unit : ℕ) (wanted sorted : List Pair) (at : ℕ) (reader : Reader) (r : OasRecord) (next : ℕ)
    → (s : IsStanding bytes unit sorted at reader) → AreSamePairs wanted sorted → HasRecord bytes at reader.tables r next
    → HasRecord bytes at (tables_at_end (records_in s.past)) r next
stands_there bytes unit wanted sorted at reader r next s same stands =
    subst (λ t. HasRecord bytes at t r next) (s.reader_is wanted same).tables stands

-- ---- refusals

pub lexical_first : (bytes : List ℕ) (unit : ℕ) (wanted sorted : List Pair) (at : ℕ) (reader : Reader) (cause : RecordBad)
    (refusal : Refusal OasBad) → IsStanding bytes unit sorted at reader → AreSamePairs wanted sorted
    → NoRecord bytes at reader.tables cause → refusal ≡ lexical_refusal cause at → IsForFault (IsFirstOasisFault bytes unit wanted) refusal
lexical_first bytes unit wanted sorted at reader cause refusal s same stands told =
    rw told (inr (inl (record {
      past = s.past;
      at = at;
      read = read_up_to bytes unit wanted sorted at reader s same;
      fault = inl (record {
        cause = cause;
        none = subst (λ t. NoRecord bytes at t cause) (s.reader_is wanted same).tables stands;
        bad_is = refl;
      });
    })))

pub refused_first : (bytes : List ℕ) (unit : ℕ) (wanted sorted : List Pair) (at : ℕ) (reader : Reader) (r : OasRecord) (next : ℕ)
    (refusal : Refusal OasBad) → (s : IsStanding bytes unit sorted at reader) → AreSamePairs wanted sorted → HasRecord bytes at reader.tables r next
    → IsForFault (IsRefused bytes unit wanted s.past at r next) refusal → IsForFault (IsFirstOasisFault bytes unit wanted) refusal
refused_first bytes unit wanted sorted at reader r next (Fault bad) s same stands refused =
    inr (inl (record {
      past = s.past;
      at = at;
      read = read_up_to bytes unit wanted sorted at reader s same;
      fault = inr (record {
        r = r;
        next = next;
        stands = stands_there bytes unit wanted sorted at reader r next s same stands;
        refused = refused;
      });
    }))
refused_first bytes unit wanted sorted at reader r next NoMemory s same stands refused = tt

-- ---- one more record

-- the record is in order and allowed, and the reader has taken it
pub record IsTakenOn (bytes : List ℕ) (unit : ℕ) (wanted : List Pair) (past : List Item) (at : ℕ) (r : OasRecord) (next : ℕ) (new : Reader) : Type 0 where
  pub order : is_in_order (records_in past) r ≡ true
  pub allowed : IsItemAllowed bytes unit wanted past at r next
  pub reader_is : IsReaderOf bytes wanted (item at r ∷ past) new

pub stands_on : (bytes : List ℕ) (unit : ℕ) (sorted : List Pair) (at : ℕ) (old new : Reader) (r : OasRecord) (next : ℕ)
    → (s : IsStanding bytes unit sorted at old) → HasRecord bytes at old.tables r next → at < next → next ≤ length bytes → is_end r ≡ false
    → IsReaderWithin bytes new
    → ((wanted : List Pair) → AreSamePairs wanted sorted → IsTakenOn bytes unit wanted s.past at r next new)
    → IsStanding bytes unit sorted next new
stands_on bytes unit sorted at old new r next s stands onward least more within taken =
    let few = s.few in
    record {
      past = item at r ∷ s.past;
      begins = s.begins;
      run = (stands_there bytes unit sorted sorted at old r next s (own_pairs sorted) stands, s.run);
      goes_on = (more, s.goes_on);
      few = omega (arith, few, onward);
      least = least;
      within = within;
      allowed = λ wanted same. ((taken wanted same).order, (taken wanted same).allowed, s.allowed wanted same);
      reader_is = λ wanted same. (taken wanted same).reader_is;
    }

-- ---- END

whole : (bytes : List ℕ) (unit : ℕ) (wanted sorted : List Pair) (at : ℕ) (old new : Reader) (r : OasRecord) (next : ℕ)
    → (s : IsStanding bytes unit sorted at old) → AreSamePairs wanted sorted → HasRecord bytes at old.tables r next → is_end r ≡ true
    → IsTakenOn bytes unit wanted s.past at r next new → IsWholeFile bytes unit wanted (item at r) s.past next
whole bytes unit wanted sorted at old new r next s same stands end taken = record {
  read = read_up_to bytes unit wanted sorted at old s same;
  stands = stands_there bytes unit wanted sorted at old r next s same stands;
  order = taken.order;
  allowed = taken.allowed;
  ends = end;
}

pub ended_ok : (bytes : List ℕ) (unit : ℕ) (wanted sorted : List Pair) (at : ℕ) (old new : Reader) (r : OasRecord) (next : ℕ)
    (result : Result Layout (Refusal OasBad)) → (s : IsStanding bytes unit sorted at old) → AreSamePairs wanted sorted → HasRecord bytes at old.tables r next
    → is_end r ≡ true → IsTakenOn bytes unit wanted s.past at r next new → IfOk result (IsLayoutBehind bytes wanted (item at r ∷ s.past))
    → IfOk result (λ layout. IsOasisLayoutOf bytes unit wanted layout)
ended_ok bytes unit wanted sorted at old new r next (Err bad) s same stands end taken behind = tt
ended_ok bytes unit wanted sorted at old new r next (Ok layout) s same stands end taken behind = record {
  last = item at r;
  past = s.past;
  next = next;
  whole = whole bytes unit wanted sorted at old new r next s same stands end taken;
  known = behind.known;
  distinct = behind.distinct;
  layout_is = behind.layout_is;
}

pub ended_bad : (bytes : List ℕ) (unit : ℕ) (wanted sorted : List Pair) (at : ℕ) (old new : Reader) (r : OasRecord) (next : ℕ)
    (result : Result Layout (Refusal OasBad)) → (s : IsStanding bytes unit sorted at old) → AreSamePairs wanted sorted
    → HasRecord bytes at old.tables r next → is_end r ≡ true → IsTakenOn bytes unit wanted s.past at r next new
    → IfFault result (IsFaultOfNames bytes (item at r ∷ s.past)) → IfFault result (IsFirstOasisFault bytes unit wanted)
ended_bad bytes unit wanted sorted at old new r next (Ok layout) s same stands end taken fault = tt
ended_bad bytes unit wanted sorted at old new r next (Err NoMemory) s same stands end taken fault = tt
ended_bad bytes unit wanted sorted at old new r next (Err (Fault bad)) s same stands end taken fault =
    inr (inr (record {
      last = item at r;
      past = s.past;
      next = next;
      whole = whole bytes unit wanted sorted at old new r next s same stands end taken;
      fault = fault;
    }))

-- ---- every layout and every fault

pub every_layout : (bytes : List ℕ) (unit : ℕ) (wanted : List Pair) (result : Result Layout (Refusal OasBad))
    → IfOk result (λ layout. IsOasisLayoutOf bytes unit wanted layout) → IfFault result (IsFirstOasisFault bytes unit wanted)
    → (layout : Layout) → IsOasisLayoutOf bytes unit wanted layout → (result ≡ Ok layout) ⊎ (result ≡ Err NoMemory)
every_layout bytes unit wanted (Ok one) found fault layout is = inl (ap Ok (one_layout one_law bytes unit wanted one layout found is))
every_layout bytes unit wanted (Err NoMemory) found fault layout is = inr refl
every_layout bytes unit wanted (Err (Fault bad)) found fault layout is =
    absurd (no_layout_with_fault one_law apart_law bytes unit wanted layout bad is fault)

pub every_first_fault : (bytes : List ℕ) (unit : ℕ) (wanted : List Pair) (result : Result Layout (Refusal OasBad))
    → IfOk result (λ layout. IsOasisLayoutOf bytes unit wanted layout) → IfFault result (IsFirstOasisFault bytes unit wanted)
    → (bad : OasBad) → IsFirstOasisFault bytes unit wanted bad → (result ≡ Err (Fault bad)) ⊎ (result ≡ Err NoMemory)
every_first_fault bytes unit wanted (Ok layout) found fault bad is =
    absurd (no_layout_with_fault one_law apart_law bytes unit wanted layout bad found is)
every_first_fault bytes unit wanted (Err NoMemory) found fault bad is = inr refl
every_first_fault bytes unit wanted (Err (Fault one)) found fault bad is =
    inl (ap (λ b. Err (Fault b)) (one_fault one_law apart_law cause_law bytes unit wanted one bad fault is))
