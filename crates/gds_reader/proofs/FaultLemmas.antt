-- Bytes hold at most one layout and at most one first fault, and never both.
use Rattle.std.proofs.Common.{◌≡◌, ℕ, ◌-◌, ◌≤◌, List, [], ◌∷◌, reverse, sym, ap, subst, ◌∙◌, ◌⊎◌, inl, inr, arith}
use Rattle.std.specs.Prelude.{◌≢◌}
use Rattle.std.proofs.lemmas.Bool.{cases_lt}
use Rattle.std.proofs.lemmas.List.{reverse-reverse, append-nil}
use Rattle.layout_model.specs.declared.pair.Pair.{Pair}
use Rattle.layout_model.specs.declared.cells.Layout.{Layout}
use Rattle.gds_record.specs.Framing.{IsRecordAt}
use Rattle.gds_record.specs.Reals.{AgreesWithUnit}
use Rattle.gds_record.specs.Runs.{AreRecordsEndToEnd, NoRecordEnds, EndsOnlyLast, IsLibraryClosed}
use Rattle.gds_record.specs.declared.kinds.Kind.TheVariants.{StrName, Units, EndLib}
use Rattle.gds_record.specs.declared.records.Record.{Record}
use Rattle.gds_record.proofs.ForCallers.{record_unique, record_or_fault, fault_unique, records_unique}
use Rattle.gds_reader.specs.declared.refusing.GdsBad.{GdsBad}
use Rattle.gds_reader.specs.declared.refusing.GdsBad.TheVariants as faults
use Rattle.gds_reader.specs.Grammar.{IsStreamOrder, IsBeginning}
use Rattle.gds_reader.specs.Meaning.{layout_of}
use Rattle.gds_reader.specs.Values.{KeepsGdsiiRules, IsLowest, IsLowestBrokenByRecord, KeepsGdsiiRule}
use Rattle.gds_reader.specs.Reading.{kinds_of, unit_in, IsSameName, IsNamedBefore, IsRecordAllowed, AreRecordsAllowed, IsGdsiiLayoutOf}
use Rattle.gds_reader.specs.Reading.{AreRecordsReadUpTo, framing_fault, IsFramingFault, IsGdsiiOrderFault, IsNext, IsGdsiiValueFault}
use Rattle.gds_reader.specs.Reading.{IsGdsiiUnitFault, IsGdsiiNameFault, IsGdsiiTailFault, IsFault, OneLayout, OneFault}
use Rattle.gds_reader.specs.Reading.{NoLayoutWithFault}
use Rattle.gds_reader.proofs.TableLemmas.{named_among, one_earlier}
use Rattle.gds_reader.proofs.RunLemmas.{GoesOn, compare_runs, allowed_on, begins_on, none_ends_at, none_ends_front, not_closed, last_ends}

-- ---- a record that is read is no fault

-- the record at the offset may follow and is allowed
pub record IsGood (bytes : List ℕ) (unit : ℕ) (wanted : List Pair) (past : List Record) (at : ℕ) (r : Record) : Type 0 where
  pub stands : IsRecordAt bytes at r
  pub order : IsBeginning (kinds_of (reverse (r ∷ past)))
  pub allowed : IsRecordAllowed bytes unit wanted past r

same_record : (bytes : List ℕ) (at : ℕ) (P : Record → Type 0) (r s : Record) → IsRecordAt bytes at r → IsRecordAt bytes at s → P r → P s
same_record bytes at P r s p q holds = subst P (record_unique bytes at r s p q) holds

-- what is wrong after a good record can only be the tail
only_tail : (bytes : List ℕ) (unit : ℕ) (wanted : List Pair) (past : List Record) (at : ℕ) (r : Record) (bad : GdsBad)
    → IsGood bytes unit wanted past at r → IsFault bytes unit wanted past at bad → IsGdsiiTailFault bytes unit wanted past at bad
only_tail bytes unit wanted past at r bad good (inl f) = absurd (record_or_fault bytes at r f.0 good.stands f.1)
only_tail bytes unit wanted past at r bad good (inr (inl f)) =
    absurd (f.order (same_record bytes at (λ x. IsBeginning (kinds_of (reverse (x ∷ past)))) r f.r good.stands f.stands good.order))
only_tail bytes unit wanted past at r bad good (inr (inr (inl f))) =
    absurd (f.broken.broken (same_record bytes at (KeepsGdsiiRules bytes wanted past) r f.r good.stands f.next.stands good.allowed.rules f.rule))
only_tail bytes unit wanted past at r bad good (inr (inr (inr (inl f)))) =
    absurd (f.disagrees (same_record bytes at
    (λ (x : Record). x.kind ≡ Units → AgreesWithUnit (unit_in bytes x) unit) r f.r good.stands f.next.stands
    good.allowed.unit_agrees f.kind))
only_tail bytes unit wanted past at r bad good (inr (inr (inr (inr (inl f))))) =
    absurd (same_record bytes at (λ (x : Record). x.kind ≡ StrName → ¬ IsNamedBefore bytes past x) r f.r good.stands f.next.stands good.allowed.new_name f.kind
    (subst (λ xs. IsNamedBefore bytes xs f.r) (sym f.among) (named_among bytes f.before f.earlier f.after f.r f.same)))
only_tail bytes unit wanted past at r bad good (inr (inr (inr (inr (inr f))))) = f

-- a longer reading goes on with a good record that doesn't end the library
no_fault_on : (bytes : List ℕ) (unit : ℕ) (wanted : List Pair) (past : List Record) (at : ℕ) (more : List Record) (up : ℕ) (bad : GdsBad)
    → AreRecordsReadUpTo bytes unit wanted more up → GoesOn bytes (reverse past) at (reverse more) up → IsFault bytes unit wanted past at bad → ⊥
no_fault_on bytes unit wanted past at more up bad read on fault =
    let good : IsGood bytes unit wanted past at on.r = record {
      stands = on.stands;
      order = begins_on past on.r (reverse more) on.rest on.all read.order;
      allowed = allowed_on bytes unit wanted past on.r (reverse more) on.rest on.all
          (subst (AreRecordsAllowed bytes unit wanted) (sym (reverse-reverse more)) read.allowed);
    } in
    let tail = only_tail bytes unit wanted past at on.r bad good fault in
    let more_ends : on.r.kind ≢ EndLib = none_ends_at (reverse past) on.r on.rest (subst NoRecordEnds on.all read.goes_on) in
    more_ends (same_record bytes at (λ (x : Record). x.kind ≡ EndLib) tail.r on.r tail.next.stands on.stands tail.kind)

-- ---- one fault at one place

abbrev Ordered : List ℕ → List Record → ℕ → Type 0
Ordered bytes past at = (r : Record) × IsNext bytes past at r

abbrev Kept : List ℕ → List Pair → List Record → ℕ → Type 0
Kept bytes wanted past at = (r : Record) × IsNext bytes past at r × KeepsGdsiiRules bytes wanted past r

lowest_unique : (K : ℕ → Type 0) (m n : ℕ) → IsLowest K m → IsLowest K n → m ≡ n
lowest_unique K m n p q = elim (cases_lt m n) [
  | inl below ↦ absurd (p.broken (q.lower m below))
  | inr above ↦ elim (cases_lt n m) [
    | inl below ↦ absurd (q.broken (p.lower n below))
    | inr same ↦ omega arith
  ]
]

kept_of : (bytes : List ℕ) (unit : ℕ) (wanted : List Pair) (past : List Record) (at : ℕ) (bad : GdsBad)
    → IsGdsiiUnitFault bytes unit wanted past at bad ⊎ IsGdsiiNameFault bytes wanted past at bad ⊎ IsGdsiiTailFault bytes unit wanted past at bad
    → Kept bytes wanted past at
kept_of bytes unit wanted past at bad (inl f) = (f.r, f.next, f.rules)
kept_of bytes unit wanted past at bad (inr (inl f)) = (f.r, f.next, f.rules)
kept_of bytes unit wanted past at bad (inr (inr f)) = (f.r, f.next, f.allowed.rules)

next_of : (bytes : List ℕ) (unit : ℕ) (wanted : List Pair) (past : List Record) (at : ℕ) (bad : GdsBad)
    → IsGdsiiValueFault bytes wanted past at bad
    ⊎ IsGdsiiUnitFault bytes unit wanted past at bad ⊎ IsGdsiiNameFault bytes wanted past at bad ⊎ IsGdsiiTailFault bytes unit wanted past at bad
    → Ordered bytes past at
next_of bytes unit wanted past at bad (inl f) = (f.r, f.next)
next_of bytes unit wanted past at bad (inr f) = let k = kept_of bytes unit wanted past at bad f in (k.0, k.1)

stands_of : (bytes : List ℕ) (unit : ℕ) (wanted : List Pair) (past : List Record) (at : ℕ) (bad : GdsBad)
    → IsGdsiiOrderFault bytes past at bad ⊎ IsGdsiiValueFault bytes wanted past at bad
    ⊎ IsGdsiiUnitFault bytes unit wanted past at bad ⊎ IsGdsiiNameFault bytes wanted past at bad ⊎ IsGdsiiTailFault bytes unit wanted past at bad
    → (r : Record) × IsRecordAt bytes at r
stands_of bytes unit wanted past at bad (inl f) = (f.r, f.stands)
stands_of bytes unit wanted past at bad (inr f) = let k = next_of bytes unit wanted past at bad f in (k.0, k.1.stands)

units_or_name : (bytes : List ℕ) (at : ℕ) (r s : Record) → IsRecordAt bytes at r → IsRecordAt bytes at s → r.kind ≡ Units → s.kind ≡ StrName → ⊥
units_or_name bytes at r s p q a b = absurd (let k : Units ≡ StrName = sym a ∙ ap (λ (x : Record). x.kind) (record_unique bytes at r s p q) ∙ b in cc)

units_or_end : (bytes : List ℕ) (at : ℕ) (r s : Record) → IsRecordAt bytes at r → IsRecordAt bytes at s → r.kind ≡ Units → s.kind ≡ EndLib → ⊥
units_or_end bytes at r s p q a b = absurd (let k : Units ≡ EndLib = sym a ∙ ap (λ (x : Record). x.kind) (record_unique bytes at r s p q) ∙ b in cc)

name_or_end : (bytes : List ℕ) (at : ℕ) (r s : Record) → IsRecordAt bytes at r → IsRecordAt bytes at s → r.kind ≡ StrName → s.kind ≡ EndLib → ⊥
name_or_end bytes at r s p q a b = absurd (let k : StrName ≡ EndLib = sym a ∙ ap (λ (x : Record). x.kind) (record_unique bytes at r s p q) ∙ b in cc)

same_name_fault : (bytes : List ℕ) (unit : ℕ) (wanted : List Pair) (past : List Record) (at : ℕ) (one other : GdsBad) → AreRecordsAllowed bytes unit wanted past
    → IsGdsiiNameFault bytes wanted past at one → IsGdsiiNameFault bytes wanted past at other → one ≡ other
same_name_fault bytes unit wanted past at one other allowed f g =
    let record_is : g.r ≡ f.r = record_unique bytes at g.r f.r g.next.stands f.next.stands in
    let same : f.earlier ≡ g.earlier =
    one_earlier bytes unit wanted f.r f.earlier g.earlier f.before f.after g.before g.after (subst (AreRecordsAllowed bytes unit wanted) f.among allowed)
    (sym f.among ∙ g.among) f.same (subst (λ x. IsSameName bytes x g.earlier) record_is g.same) in
    f.bad_is ∙ ap (λ (x : Record). faults.Twice (x.first - 4) at) same ∙ sym g.bad_is

same_tail_fault : (bytes : List ℕ) (unit : ℕ) (wanted : List Pair) (past : List Record) (at : ℕ) (one other : GdsBad)
    → IsGdsiiTailFault bytes unit wanted past at one → IsGdsiiTailFault bytes unit wanted past at other → one ≡ other
same_tail_fault bytes unit wanted past at one other f g =
    let next : f.r.next ≡ g.r.next = ap (λ (x : Record). x.next) (record_unique bytes at f.r g.r f.next.stands g.next.stands) in
    let same : f.tail ≡ g.tail = elim (cases_lt f.tail g.tail) [
      | inl below ↦ absurd (f.nonzero (g.zeros f.tail (subst (λ n. n ≤ f.tail) next f.behind) below))
      | inr above ↦ elim (cases_lt g.tail f.tail) [
        | inl below ↦ absurd (g.nonzero (f.zeros g.tail (subst (λ n. n ≤ g.tail) (sym next) g.behind) below))
        | inr level ↦ omega arith
      ]
    ] in
    f.bad_is ∙ ap faults.Tail same ∙ sym g.bad_is

same_late : (bytes : List ℕ) (unit : ℕ) (wanted : List Pair) (past : List Record) (at : ℕ) (one other : GdsBad) → AreRecordsAllowed bytes unit wanted past
    → IsGdsiiUnitFault bytes unit wanted past at one ⊎ IsGdsiiNameFault bytes wanted past at one ⊎ IsGdsiiTailFault bytes unit wanted past at one
    → IsGdsiiUnitFault bytes unit wanted past at other ⊎ IsGdsiiNameFault bytes wanted past at other ⊎ IsGdsiiTailFault bytes unit wanted past at other
    → one ≡ other
same_late bytes unit wanted past at one other allowed (inl f) (inl g) =
    f.bad_is ∙ ap (λ x. faults.Unit (unit_in bytes x)) (record_unique bytes at f.r g.r f.next.stands g.next.stands) ∙ sym g.bad_is
same_late bytes unit wanted past at one other allowed (inl f) (inr (inl g)) = absurd (units_or_name bytes at f.r g.r f.next.stands g.next.stands f.kind g.kind)
same_late bytes unit wanted past at one other allowed (inl f) (inr (inr g)) = absurd (units_or_end bytes at f.r g.r f.next.stands g.next.stands f.kind g.kind)
same_late bytes unit wanted past at one other allowed (inr (inl f)) (inl g) = absurd (units_or_name bytes at g.r f.r g.next.stands f.next.stands g.kind f.kind)
same_late bytes unit wanted past at one other allowed (inr (inl f)) (inr (inl g)) = same_name_fault bytes unit wanted past at one other allowed f g
same_late bytes unit wanted past at one other allowed (inr (inl f)) (inr (inr g)) = absurd
    (name_or_end bytes at f.r g.r f.next.stands g.next.stands f.kind g.kind)
same_late bytes unit wanted past at one other allowed (inr (inr f)) (inl g) = absurd (units_or_end bytes at g.r f.r g.next.stands f.next.stands g.kind f.kind)
same_late bytes unit wanted past at one other allowed (inr (inr f)) (inr (inl g)) = absurd
    (name_or_end bytes at g.r f.r g.next.stands f.next.stands g.kind f.kind)
same_late bytes unit wanted past at one other allowed (inr (inr f)) (inr (inr g)) = same_tail_fault bytes unit wanted past at one other f g

broken_or_kept : (bytes : List ℕ) (unit : ℕ) (wanted : List Pair) (past : List Record) (at : ℕ) (one other : GdsBad)
    → IsGdsiiValueFault bytes wanted past at one
    → IsGdsiiUnitFault bytes unit wanted past at other ⊎ IsGdsiiNameFault bytes wanted past at other ⊎ IsGdsiiTailFault bytes unit wanted past at other → ⊥
broken_or_kept bytes unit wanted past at one other f g =
    let k = kept_of bytes unit wanted past at other g in
    f.broken.broken (same_record bytes at (KeepsGdsiiRules bytes wanted past) k.0 f.r k.1.stands f.next.stands k.2 f.rule)

same_value : (bytes : List ℕ) (unit : ℕ) (wanted : List Pair) (past : List Record) (at : ℕ) (one other : GdsBad) → AreRecordsAllowed bytes unit wanted past
    → IsGdsiiValueFault bytes wanted past at one ⊎ IsGdsiiUnitFault bytes unit wanted past at one
    ⊎ IsGdsiiNameFault bytes wanted past at one ⊎ IsGdsiiTailFault bytes unit wanted past at one
    → IsGdsiiValueFault bytes wanted past at other ⊎ IsGdsiiUnitFault bytes unit wanted past at other
    ⊎ IsGdsiiNameFault bytes wanted past at other ⊎ IsGdsiiTailFault bytes unit wanted past at other
    → one ≡ other
same_value bytes unit wanted past at one other allowed (inl f) (inl g) =
    let broken : IsLowestBrokenByRecord bytes wanted past g.r f.rule =
    same_record bytes at (λ x. IsLowestBrokenByRecord bytes wanted past x f.rule) f.r g.r f.next.stands g.next.stands f.broken in
    f.bad_is ∙ ap (λ rule. faults.Value at rule) (lowest_unique (KeepsGdsiiRule bytes wanted past g.r) f.rule g.rule broken g.broken) ∙ sym g.bad_is
same_value bytes unit wanted past at one other allowed (inl f) (inr g) = absurd (broken_or_kept bytes unit wanted past at one other f g)
same_value bytes unit wanted past at one other allowed (inr f) (inl g) = absurd (broken_or_kept bytes unit wanted past at other one g f)
same_value bytes unit wanted past at one other allowed (inr f) (inr g) = same_late bytes unit wanted past at one other allowed f g

order_or_next : (bytes : List ℕ) (past : List Record) (at : ℕ) (bad : GdsBad) → IsGdsiiOrderFault bytes past at bad → Ordered bytes past at → ⊥
order_or_next bytes past at bad f k =
    f.order (same_record bytes at (λ x. IsBeginning (kinds_of (reverse (x ∷ past)))) k.0 f.r k.1.stands f.stands k.1.order)

same_order : (bytes : List ℕ) (unit : ℕ) (wanted : List Pair) (past : List Record) (at : ℕ) (one other : GdsBad) → AreRecordsAllowed bytes unit wanted past
    → IsGdsiiOrderFault bytes past at one ⊎ IsGdsiiValueFault bytes wanted past at one
    ⊎ IsGdsiiUnitFault bytes unit wanted past at one ⊎ IsGdsiiNameFault bytes wanted past at one
    ⊎ IsGdsiiTailFault bytes unit wanted past at one
    → IsGdsiiOrderFault bytes past at other ⊎ IsGdsiiValueFault bytes wanted past at other
    ⊎ IsGdsiiUnitFault bytes unit wanted past at other ⊎ IsGdsiiNameFault bytes wanted past at other
    ⊎ IsGdsiiTailFault bytes unit wanted past at other
    → one ≡ other
same_order bytes unit wanted past at one other allowed (inl f) (inl g) = f.bad_is ∙ sym g.bad_is
same_order bytes unit wanted past at one other allowed (inl f) (inr g) = absurd (order_or_next bytes past at one f (next_of bytes unit wanted past at other g))
same_order bytes unit wanted past at one other allowed (inr f) (inl g) = absurd (order_or_next bytes past at other g (next_of bytes unit wanted past at one f))
same_order bytes unit wanted past at one other allowed (inr f) (inr g) = same_value bytes unit wanted past at one other allowed f g

framed_or_not : (bytes : List ℕ) (at : ℕ) (bad : GdsBad) → IsFramingFault bytes at bad → (r : Record) × IsRecordAt bytes at r → ⊥
framed_or_not bytes at bad f k = record_or_fault bytes at k.0 f.0 k.1 f.1

same_fault : (bytes : List ℕ) (unit : ℕ) (wanted : List Pair) (past : List Record) (at : ℕ) (one other : GdsBad) → AreRecordsAllowed bytes unit wanted past
    → IsFault bytes unit wanted past at one → IsFault bytes unit wanted past at other → one ≡ other
same_fault bytes unit wanted past at one other allowed (inl f) (inl g) =
    f.2 ∙ ap (λ x. framing_fault x at) (fault_unique bytes at f.0 g.0 f.1 g.1) ∙ sym g.2
same_fault bytes unit wanted past at one other allowed (inl f) (inr g) = absurd (framed_or_not bytes at one f (stands_of bytes unit wanted past at other g))
same_fault bytes unit wanted past at one other allowed (inr f) (inl g) = absurd (framed_or_not bytes at other g (stands_of bytes unit wanted past at one f))
same_fault bytes unit wanted past at one other allowed (inr f) (inr g) = same_order bytes unit wanted past at one other allowed f g

-- ---- the laws

same_past : (past more : List Record) → reverse past ≡ reverse more → past ≡ more
same_past past more e = sym (reverse-reverse past) ∙ ap reverse e ∙ reverse-reverse more

pub one_fault : OneFault
one_fault bytes unit wanted one other f g =
    elim (compare_runs bytes 0 (reverse f.past) (reverse g.past) f.at g.at f.read.run g.read.run) [
      | inl same ↦
          let past : g.past ≡ f.past = sym (same_past f.past g.past same.0) in
          same_fault bytes unit wanted f.past f.at one other f.read.allowed f.fault
          (subst (λ xs. IsFault bytes unit wanted xs f.at other) past (subst (λ at. IsFault bytes unit wanted g.past at other) (sym same.1) g.fault))
      | inr (inl on) ↦ absurd (no_fault_on bytes unit wanted f.past f.at g.past g.at one g.read on f.fault)
      | inr (inr on) ↦ absurd (no_fault_on bytes unit wanted g.past g.at f.past f.at other f.read on g.fault)
    ]

pub one_layout : OneLayout
one_layout bytes unit wanted one other p q =
    let same : p.records ≡ q.records =
    (records_unique bytes p.records q.records p.framed.to q.framed.to p.framed.records q.framed.records).0 in
    p.layout_is ∙ ap (λ rs. layout_of bytes wanted (reverse rs)) same ∙ sym q.layout_is

-- a record of a whole file that may be its last
no_fault_within : (bytes : List ℕ) (unit : ℕ) (wanted : List Pair) (layout : Layout) (past : List Record) (at : ℕ) (bad : GdsBad)
    → (p : IsGdsiiLayoutOf bytes unit wanted layout) → GoesOn bytes (reverse past) at p.records p.framed.to → IsFault bytes unit wanted past at bad → ⊥
no_fault_within bytes unit wanted layout past at bad p on fault =
    let good : IsGood bytes unit wanted past at on.r = record {
      stands = on.stands;
      order = begins_on past on.r p.records on.rest on.all ([], subst IsStreamOrder (sym (append-nil (kinds_of p.records))) p.order);
      allowed = allowed_on bytes unit wanted past on.r p.records on.rest on.all p.allowed;
    } in
    let tail = only_tail bytes unit wanted past at on.r bad good fault in
    let same : tail.r ≡ on.r = record_unique bytes at tail.r on.r tail.next.stands on.stands in
    let ends : on.r.kind ≡ EndLib = subst (λ (x : Record). x.kind ≡ EndLib) same tail.kind in
    let none : on.rest ≡ [] = last_ends (reverse past) on.r on.rest (subst EndsOnlyLast on.all p.framed.records.ends) ends in
    let to : on.r.next ≡ p.framed.to = subst (λ xs. AreRecordsEndToEnd bytes on.r.next xs p.framed.to) none on.run in
    let behind : p.framed.to ≤ tail.tail = subst (λ n. n ≤ tail.tail) (ap (λ (x : Record). x.next) same ∙ to) tail.behind in
    tail.nonzero (p.framed.blank tail.tail behind tail.within)

pub no_layout_with_fault : NoLayoutWithFault
no_layout_with_fault bytes unit wanted layout bad p f =
    elim (compare_runs bytes 0 (reverse f.past) p.records f.at p.framed.to f.read.run p.framed.records.run) [
      | inl same ↦ not_closed (reverse f.past) f.read.goes_on (subst IsLibraryClosed (sym same.0) p.framed.closed)
      | inr (inl on) ↦ no_fault_within bytes unit wanted layout f.past f.at bad p on f.fault
      | inr (inr on) ↦ not_closed p.records (none_ends_front p.records (on.r ∷ on.rest) (subst NoRecordEnds on.all f.read.goes_on)) p.framed.closed
    ]
