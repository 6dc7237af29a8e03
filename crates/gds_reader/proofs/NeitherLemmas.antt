-- Bytes that hold no layout have a first fault. Whether a path can be drawn isn't computed here, so what is shown is that
-- no bytes are neither.
use Rattle.std.proofs.Common.{◌≡◌, ◌≢◌, ℕ, zero, suc, ◌+◌, ◌-◌, ◌%◌, ◌<◌, ◌≤◌, true, false, List, [], ◌∷◌, ◌++◌}
use Rattle.std.proofs.Common.{reverse, length, Option, Some, None, refl, sym, subst, inl, inr, arith}
use Rattle.std.specs.Prelude.{slice_index, IsSome}
use Rattle.std.proofs.lemmas.Bool.{cases_lt}
use Rattle.std.proofs.lemmas.List.{reverse-reverse}
use Rattle.half_grid.specs.declared.plane.Point.{Point}
use Rattle.layout_model.specs.declared.pair.Pair.{Pair}
use Rattle.gds_record.specs.Faults.{IsFaultAt}
use Rattle.gds_record.specs.Framing.{length_at, head_at, IsRecordLength, IsWholeRecord, IsRecordAt}
use Rattle.gds_record.specs.Heads.{head_of}
use Rattle.gds_record.specs.Reals.{AgreesWithUnit}
use Rattle.gds_record.specs.Runs.{AreRecordsEndToEnd, NoRecordEnds, IsLibraryClosed, IsRecordsOf}
use Rattle.gds_record.specs.declared.kinds.Kind.{Kind}
use Rattle.gds_record.specs.declared.kinds.Kind.TheVariants.{Format, StrName, Sname, Strans, Mag, Angle, ColRow}
use Rattle.gds_record.specs.declared.kinds.Kind.TheVariants.{PathType, Xy, Sref, Aref, Boundary, Path, Units, EndLib}
use Rattle.gds_record.specs.declared.records.Framing.{Framing}
use Rattle.gds_record.specs.declared.records.Framing.TheVariants as framing
use Rattle.gds_record.specs.declared.records.Record.{Record}
use Rattle.gds_record.proofs.ForCallers.{record_onward, run_push, none_ends-push, records_closed, closed_push}
use Rattle.gds_reader.specs.declared.order.Place.{Place}
use Rattle.gds_reader.specs.declared.order.Place.TheVariants as places
use Rattle.gds_reader.specs.declared.refusing.GdsBad.{GdsBad}
use Rattle.gds_reader.specs.declared.refusing.GdsBad.TheVariants.{Order, Value, Tail, Unit as OtherUnit, Twice}
use Rattle.gds_reader.specs.Meaning.{layout_of}
use Rattle.gds_reader.specs.Names.{place_of}
use Rattle.gds_reader.specs.Past.{same_kind, element_kind}
use Rattle.gds_reader.specs.Readers.{place_behind, next_after}
use Rattle.gds_reader.specs.Reading.{kinds_of, unit_in, IsRecordAllowed, AreRecordsAllowed, AreRecordsReadUpTo, IsNext, IsNamedBefore, IsFault}
use Rattle.gds_reader.specs.Reading.{framing_fault, HoldNoLayout, HaveNoFault, OthersHaveFault}
use Rattle.gds_reader.specs.Values.{KeepsXy, KeepsAs, KeepsGdsiiRule, KeepsGdsiiRules, IsLowest, IsLowestBrokenByRecord, name_in, points_in}
use Rattle.gds_reader.proofs.KindLemmas.{same_kind_is, same_kind_refl}
use Rattle.gds_reader.proofs.PlaceLemmas.{LeadsTo, leads_first, leads_begin, leads_end}
use Rattle.gds_reader.proofs.ReadLemmas.{leads, next_stands, no_next, ended_place}
use Rattle.gds_reader.proofs.RunLemmas.{reverse_more}
use Rattle.gds_reader.proofs.TableLemmas.{found_name, not_named}

-- ---- framing

whole_or_not : (bytes : List ℕ) (at : ℕ) → ((f : Framing) → IsFaultAt bytes at f → ⊥) → (IsWholeRecord bytes at → ⊥) → ⊥
whole_or_not bytes at sound none =
    elim (cases_lt (length bytes) (at + 4)) [
      | inl short ↦ sound framing.Short (inl short)
      | inr begins ↦ elim (cases_lt (length_at bytes at) 4) [
        | inl small ↦ sound framing.Length (record { begins = begins; bad = inl small })
        | inr least ↦ elim (cases_lt 0 (length_at bytes at % 2)) [
          | inl odd ↦ sound framing.Length (record { begins = begins; bad = inr (omega arith) })
          | inr even ↦
              let sized : IsRecordLength (length_at bytes at) = record { least = least; even = omega arith } in
              elim (cases_lt (length bytes) (at + length_at bytes at)) [
                | inl cut ↦ sound framing.Short (inr (record { begins = begins; sized = sized; cut = cut }))
                | inr ends ↦ none (record { begins = begins; sized = sized; ends = ends })
              ]
        ]
      ]
    ]

of_kind : (bytes : List ℕ) (at : ℕ) (kind : Kind) → IsWholeRecord bytes at → head_at bytes at ≡ head_of kind
    → ((f : Framing) → IsFaultAt bytes at f → ⊥) → ((r : Record) → IsRecordAt bytes at r → ⊥) → ⊥
of_kind bytes at kind whole head sound none =
    sound framing.Size (
      kind,
      record {
        whole = whole;
        head = head;
        size = λ content.
            (let r : Record = record { kind = kind; first = at + 4; next = at + length_at bytes at } in
            none r (record { whole = whole; head = head; content = content; first = refl; next = refl }));
      },
    )

-- a record stands at the offset, or what is wrong there is one of the causes
record_or_not : (bytes : List ℕ) (at : ℕ) → ((f : Framing) → IsFaultAt bytes at f → ⊥) → ((r : Record) → IsRecordAt bytes at r → ⊥) → ⊥
record_or_not bytes at sound none =
    whole_or_not bytes at sound (λ whole.
    sound framing.Kind (record { whole = whole; unknown = λ kind head. of_kind bytes at kind whole head sound none }))

-- ---- rules

up_to : (K : ℕ → Type 0) (n m : ℕ) → ((k : ℕ) → k < n → K k) → K n → m < suc n → K m
up_to K n m below here lt = elim (cases_lt m n) [ inl less ↦ below m less | inr more ↦ let same : n ≡ m = omega arith in subst K same here ]

-- where no rule is the lowest broken one, the first n rules are kept
first_kept : (K : ℕ → Type 0) → ((rule : ℕ) → IsLowest K rule → ⊥) → (n : ℕ) → (((m : ℕ) → m < n → K m) → ⊥) → ⊥
first_kept K none zero refute = refute (λ m lt. absurd (omega arith))
first_kept K none (suc n) refute =
    first_kept K none n (λ below. none n (record { broken = λ here. refute (λ m lt. up_to K n m below here lt); lower = below }))

-- the last rule has the number 14
far_xy : (bytes : List ℕ) (wanted : List Pair) (past : List Record) (points : List Point) (kind : Option Kind) (rule : ℕ) → 14 < rule
    → KeepsXy bytes wanted past points kind rule
far_xy bytes wanted past points None rule far = tt
far_xy bytes wanted past points (Some kind) rule far =
    elim kind as (λ k. KeepsXy bytes wanted past points (Some k) rule) [
      | Sref ↦ λ e. absurd (omega arith)
      | Aref ↦ record { three = λ e. absurd (omega arith); steps = λ e. absurd (omega arith) }
      | Boundary ↦ λ w. record { count = λ e. absurd (omega arith); closed = λ e. absurd (omega arith); edges = λ e. absurd (omega arith) }
      | Path ↦ λ w e. absurd (omega arith)
      | _ ↦ tt
    ]

far_rule : (bytes : List ℕ) (wanted : List Pair) (past : List Record) (kind : Kind) (r : Record) (rule : ℕ) → 14 < rule
    → KeepsAs kind bytes wanted past r rule
far_rule bytes wanted past kind r rule far =
    elim kind as (λ k. KeepsAs k bytes wanted past r rule) [
      | Format ↦ λ e. absurd (omega arith)
      | StrName ↦ λ e. absurd (omega arith)
      | Sname ↦ λ e. absurd (omega arith)
      | Strans ↦ λ e. absurd (omega arith)
      | Mag ↦ λ e. absurd (omega arith)
      | Angle ↦ λ e. absurd (omega arith)
      | ColRow ↦ λ e. absurd (omega arith)
      | PathType ↦ λ e. absurd (omega arith)
      | Xy ↦ far_xy bytes wanted past (points_in bytes r) (element_kind past) rule far
      | _ ↦ tt
    ]

rules_or_not : (bytes : List ℕ) (wanted : List Pair) (past : List Record) (r : Record) → ((rule : ℕ) → IsLowestBrokenByRecord bytes wanted past r rule → ⊥)
    → (KeepsGdsiiRules bytes wanted past r → ⊥) → ⊥
rules_or_not bytes wanted past r none refute =
    first_kept (KeepsGdsiiRule bytes wanted past r) none 15
    (λ below. refute (λ rule. elim (cases_lt rule 15) [ inl near ↦ below rule near | inr far ↦ far_rule bytes wanted past r.kind r rule (omega arith) ]))

-- ---- a record that may follow

only_if : {A B : Type 0} → (A → (B → ⊥) → ⊥) → ((A → B) → ⊥) → ⊥
only_if f refute = refute (λ a. absurd (f a (λ b. refute (λ _. b))))

abbrev HasNoFault : List ℕ → ℕ → List Pair → List Record → ℕ → Type 0
HasNoFault bytes unit wanted past at = (bad : GdsBad) → IsFault bytes unit wanted past at bad → ⊥

new_name : (bytes : List ℕ) (unit : ℕ) (wanted : List Pair) (past : List Record) (at : ℕ) (r : Record) (place : Option ℕ)
    → HasNoFault bytes unit wanted past at → IsNext bytes past at r → KeepsGdsiiRules bytes wanted past r
    → place_of bytes (name_in bytes r) past ≡ place → r.kind ≡ StrName → ¬ IsNamedBefore bytes past r
new_name bytes unit wanted past at r None sound next rules e kind = not_named bytes r past e
new_name bytes unit wanted past at r (Some first) sound next rules e kind =
    let found = found_name bytes r first past e in
    absurd (sound (Twice (found.earlier.first - 4) at) (inr (inr (inr (inr (inl (record {
      r = r;
      next = next;
      rules = rules;
      kind = kind;
      before = found.before;
      earlier = found.earlier;
      after = found.after;
      among = found.among;
      same = found.same;
      bad_is = refl;
    })))))))

allowed_or_not : (bytes : List ℕ) (unit : ℕ) (wanted : List Pair) (past : List Record) (at : ℕ) (r : Record) → HasNoFault bytes unit wanted past at
    → IsNext bytes past at r → (IsRecordAllowed bytes unit wanted past r → ⊥) → ⊥
allowed_or_not bytes unit wanted past at r sound next none =
    rules_or_not bytes wanted past r
    (λ rule broken. sound (Value at rule) (inr (inr (inl (record { r = r; next = next; rule = rule; broken = broken; bad_is = refl })))))
    (λ rules. only_if {A = r.kind ≡ Units} {B = AgreesWithUnit (unit_in bytes r) unit}
    (λ kind disagrees. sound (OtherUnit (unit_in bytes r))
    (inr (inr (inr (inl (record { r = r; next = next; rules = rules; kind = kind; disagrees = disagrees; bad_is = refl }))))))
    (λ agrees. none (record {
      rules = rules;
      unit_agrees = agrees;
      new_name = new_name bytes unit wanted past at r (place_of bytes (name_in bytes r) past) sound next rules refl;
    })))

-- ---- the end of the library

-- where no byte from an offset on is the first that isn't 0, all are 0
all_zeros : (bytes : List ℕ) (from : ℕ)
    → ((tail : ℕ) → from ≤ tail → tail < length bytes → slice_index bytes tail ≢ 0 → ((k : ℕ) → from ≤ k → k < tail → slice_index bytes k ≡ 0) → ⊥)
    → (n k : ℕ) → k < n → from ≤ k → k < length bytes → slice_index bytes k ≡ 0
all_zeros bytes from none zero k lt behind within = absurd (omega arith)
all_zeros bytes from none (suc n) k lt behind within =
    elim (cases_lt k n) [
      | inl less ↦ all_zeros bytes from none n k less behind within
      | inr more ↦ elim (cases_lt 0 (slice_index bytes k)) [
        | inl some ↦ absurd (none k behind within (λ e. absurd (omega arith)) (λ j low below. all_zeros bytes from none n j (omega arith) low (omega arith)))
        | inr none_here ↦ omega arith
      ]
    ]

ends_or_not : (bytes : List ℕ) (unit : ℕ) (wanted : List Pair) (past : List Record) (at : ℕ) (r : Record) (place : Place)
    → HoldNoLayout bytes unit wanted → HasNoFault bytes unit wanted past at → AreRecordsReadUpTo bytes unit wanted past at → IsNext bytes past at r
    → IsRecordAllowed bytes unit wanted past r → next_after (place_behind past) r ≡ Some place → r.kind ≡ EndLib → ⊥
ends_or_not bytes unit wanted past at r place none sound read next allowed e end =
    let blank : (k : ℕ) → r.next ≤ k → k < length bytes → slice_index bytes k ≡ 0 = λ k behind within.
    all_zeros bytes r.next
    (λ tail low inside nonzero zeros. sound (Tail tail) (inr (inr (inr (inr (inr (record {
      r = r;
      next = next;
      allowed = allowed;
      kind = end;
      tail = tail;
      behind = low;
      within = inside;
      nonzero = nonzero;
      zeros = zeros;
      bad_is = refl;
    })))))))
    (length bytes) k within behind within in
    let turned : reverse (reverse (r ∷ past)) ≡ r ∷ past = reverse-reverse (r ∷ past) in
    let more : reverse (r ∷ past) ≡ reverse past ++ r ∷ [] = reverse_more r past in
    let last : place ≡ places.End = ended_place past r (place_behind past) place refl e end in
    none (layout_of bytes wanted (reverse (reverse (r ∷ past)))) (record {
      records = reverse (r ∷ past);
      framed = record {
        to = r.next;
        records = subst (λ rs. IsRecordsOf bytes rs r.next) (sym more) (records_closed bytes (reverse past) at r read.run read.goes_on next.stands end);
        closed = subst IsLibraryClosed (sym more) (closed_push (reverse past) r end);
        blank = blank;
      };
      order = leads_end (kinds_of (reverse (r ∷ past))) (subst (LeadsTo (kinds_of (reverse (r ∷ past)))) last (leads (r ∷ past) place e));
      allowed = subst (AreRecordsAllowed bytes unit wanted) (sym turned) (allowed, read.allowed);
      layout_is = refl;
    })

-- ---- all records

read_on : (bytes : List ℕ) (unit : ℕ) (wanted : List Pair) (past : List Record) (at : ℕ) (r : Record) (place : Place)
    → AreRecordsReadUpTo bytes unit wanted past at → IsNext bytes past at r → IsRecordAllowed bytes unit wanted past r → next_after (place_behind past) r ≡ Some place
    → r.kind ≢ EndLib → AreRecordsReadUpTo bytes unit wanted (r ∷ past) r.next
read_on bytes unit wanted past at r place read next allowed e more = record {
  run = subst (λ rs. AreRecordsEndToEnd bytes 0 rs r.next) (sym (reverse_more r past)) (run_push bytes 0 (reverse past) at r read.run next.stands);
  goes_on = subst NoRecordEnds (sym (reverse_more r past)) (none_ends-push (reverse past) r read.goes_on more);
  order = leads_begin (kinds_of (reverse (r ∷ past))) place (leads (r ∷ past) place e);
  allowed = (allowed, read.allowed);
}

other_than_end : (kind : Kind) → same_kind kind EndLib ≡ false → kind ≢ EndLib
other_than_end kind other e = absurd (let same : same_kind kind EndLib ≡ true = subst (λ k. same_kind kind k ≡ true) e (same_kind_refl kind) in cc)

-- with so many bytes left at most
none_left : (bytes : List ℕ) (unit : ℕ) (wanted : List Pair) → HoldNoLayout bytes unit wanted → HaveNoFault bytes unit wanted → (n : ℕ)
    → (past : List Record) (at : ℕ) (place : Place) → place_behind past ≡ Some place → AreRecordsReadUpTo bytes unit wanted past at → length bytes ≤ at + n → ⊥
none_left bytes unit wanted none faultless zero past at place e read left =
    record_or_not bytes at
    (λ f q. faultless (framing_fault f at) (record { past = past; at = at; read = read; fault = inl (f, q, refl) }))
    (λ r stands. absurd (let begins : at + 4 ≤ length bytes = stands.whole.begins in omega (arith, begins)))
none_left bytes unit wanted none faultless (suc n) past at place e read left =
    let sound : HasNoFault bytes unit wanted past at = λ bad fault. faultless bad (record { past = past; at = at; read = read; fault = fault }) in
    record_or_not bytes at
    (λ f q. sound (framing_fault f at) (inl (f, q, refl)))
    (λ r stands.
    elim (next_after (place_behind past) r) as (λ b. next_after (place_behind past) r ≡ b → ⊥) [
      | None ↦ λ stops. sound (Order at) (inr (inl (record { r = r; stands = stands; order = no_next past r place e stops; bad_is = refl })))
      | Some place_on ↦ λ goes.
          (let next : IsNext bytes past at r = next_stands bytes past at r stands (subst (λ p. IsSome p) (sym goes) refl) in
          allowed_or_not bytes unit wanted past at r sound next (λ allowed.
          elim (same_kind r.kind EndLib) as (λ v. same_kind r.kind EndLib ≡ v → ⊥) [
            | true ↦ λ end. ends_or_not bytes unit wanted past at r place_on none sound read next allowed goes (same_kind_is r.kind EndLib end)
            | false ↦ λ other.
                none_left bytes unit wanted none faultless n (r ∷ past) r.next place_on goes
                (read_on bytes unit wanted past at r place_on read next allowed goes (other_than_end r.kind other))
                (let far : at + 4 ≤ r.next = record_onward bytes at r stands in omega (arith, far, left))
          ] refl))
    ] refl)

pub others_have_fault : OthersHaveFault
others_have_fault bytes unit wanted none faultless =
    none_left bytes unit wanted none faultless (length bytes) [] 0 places.Header refl
    (record { run = refl; goes_on = tt; order = leads_begin [] places.Header leads_first; allowed = tt }) (omega arith)
