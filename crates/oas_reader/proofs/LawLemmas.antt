-- Bytes hold at most one layout and at most one first fault, and never both: two readings of the same bytes take the same
-- records, up to where one of them ends.
use Rattle.std.proofs.Common.{◌≡◌, ℕ, Bool, true, false, Option, Some, None, List, [], ◌∷◌, refl, sym, ap, subst, ◌∙◌, ◌⊎◌, inl, inr, arith}
use Rattle.std.proofs.lemmas.Bool.{cases_lt}
use Rattle.layout_model.specs.declared.pair.Pair.{Pair}
use Rattle.oas_record.specs.Laws.{OneRecord, RecordOrFault, OneFault as OneCause}
use Rattle.oas_record.specs.Records.{HasRecord}
use Rattle.oas_record.specs.declared.records.OasRecord.{OasRecord}
use Rattle.oas_shapes.specs.Rules.{IsLowest}
use Rattle.oas_reader.specs.declared.refusing.OasBad.{OasBad}
use Rattle.oas_reader.specs.declared.refusing.OasBad.TheVariants as faults
use Rattle.oas_reader.specs.Items.{Item, records_in, tables_at_end, AreItemsEndToEnd, NoItemEnds, is_end}
use Rattle.oas_reader.specs.Order.{is_in_order}
use Rattle.oas_reader.specs.Names.{conflict_of, first_unknown, first_twins}
use Rattle.oas_reader.specs.Undefined.{undefined_of}
use Rattle.oas_reader.specs.Rules.{KeepsOasisRules, KeepsOasisRule}
use Rattle.oas_reader.specs.Meaning.{layout_of}
use Rattle.oas_reader.specs.Reading.{IsItemAllowed, AreItemsAllowed, IsWholeFile, IsLexicalFault, IsUndefinedFault, HasAllNeeded}
use Rattle.oas_reader.specs.Reading.{IsOasisValueFault, IsOasisNameFault, IsOasisUnitFault, IsOasisTailFault, IsRefused, IsOasisRecordFault}
use Rattle.oas_reader.specs.Reading.{IsFaultWithin, IsFaultOfNames, OneLayout, OneFault, NoLayoutWithFault}

-- ---- two runs of records

same_item : (x y : Item) → x.at ≡ y.at → x.r ≡ y.r → x ≡ y
same_item x y a b = ap (λ n. record { at = n; r = x.r }) a ∙ ap (λ s. record { at = y.at; r = s }) b

abbrev Same : List Item → ℕ → List Item → ℕ → Type 0
Same past at more up = (past ≡ more) × (at ≡ up)

-- the second run is the first one and further records
abbrev Extends : List Item → ℕ → List Item → ℕ → Type 0
Extends past at [] up = ⊥
Extends past at (item ∷ more) up = Same past at more item.at ⊎ Extends past at more item.at

-- what stands after a run that goes on stands in the longer one
further : (bytes : List ℕ) (x : Item) (past : List Item) (at : ℕ) (more : List Item) (up : ℕ) → OneRecord
    → HasRecord bytes x.at (tables_at_end (records_in past)) x.r at → AreItemsEndToEnd bytes more up → Extends past x.at more up
    → Same (x ∷ past) at more up ⊎ Extends (x ∷ past) at more up
further bytes x past at [] up law stands run on = absurd on
further bytes x past at (y ∷ more) up law stands run (inl same) =
    let other : HasRecord bytes x.at (tables_at_end (records_in past)) y.r up =
    subst (λ n. HasRecord bytes n (tables_at_end (records_in past)) y.r up) (sym same.1)
    (subst (λ xs. HasRecord bytes y.at (tables_at_end (records_in xs)) y.r up) (sym same.0) run.0) in
    let both = law bytes x.at (tables_at_end (records_in past)) x.r y.r at up stands other in
    let items : x ≡ y = same_item x y same.1 both.0 in
    let pasts : past ≡ more = same.0 in
    inl (cc, both.1)
further bytes x past at (y ∷ more) up law stands run (inr on) =
    elim (further bytes x past at more y.at law stands run.1 on) [
      | inl same ↦ inr (inl same)
      | inr on ↦ inr (inr on)
    ]

compare : (bytes : List ℕ) (past : List Item) (at : ℕ) (more : List Item) (up : ℕ) → OneRecord → AreItemsEndToEnd bytes past at → AreItemsEndToEnd bytes more up
    → Same past at more up ⊎ Extends past at more up ⊎ Extends more up past at
compare bytes [] at [] up law p q = inl (refl, p ∙ sym q)
compare bytes [] at (y ∷ more) up law p q = elim (compare bytes [] at more y.at law p q.1) [
  | inl same ↦ inr (inl (inl same))
  | inr (inl on) ↦ inr (inl (inr on))
  | inr (inr on) ↦ absurd on
]
compare bytes (x ∷ past) at more up law p q = elim (compare bytes past x.at more up law p.1 q) [
  | inl same ↦ inr (inr (inl (sym same.0, sym same.1)))
  | inr (inl on) ↦ elim (further bytes x past at more up law p.0 q on) [
    | inl same ↦ inl same
    | inr longer ↦ inr (inl longer)
  ]
  | inr (inr on) ↦ inr (inr (inr on))
]

-- ---- END

none_before : (past : List Item) (at : ℕ) (more : List Item) (up : ℕ) → Extends past at more up → NoItemEnds more → NoItemEnds past
none_before past at [] up on none = absurd on
none_before past at (y ∷ more) up (inl same) none = subst NoItemEnds (sym same.0) none.1
none_before past at (y ∷ more) up (inr on) none = none_before past at more y.at on none.1

ends_not : (b : Bool) → b ≡ true → b ≡ false → ⊥
ends_not b ends stays = absurd (let e : true ≡ false = sym ends ∙ stays in cc)

-- ---- a record that is read is no fault

-- a record stands at the offset and is allowed after its past
record IsGood (bytes : List ℕ) (unit : ℕ) (wanted : List Pair) (past : List Item) (at : ℕ) : Type 0 where
  r : OasRecord
  next : ℕ
  stands : HasRecord bytes at (tables_at_end (records_in past)) r next
  order : is_in_order (records_in past) r ≡ true
  allowed : IsItemAllowed bytes unit wanted past at r next

good_at : (bytes : List ℕ) (unit : ℕ) (wanted : List Pair) (past : List Item) (at : ℕ) (y : Item) (more : List Item) (up : ℕ)
    → Same past at more y.at → HasRecord bytes y.at (tables_at_end (records_in more)) y.r up → is_in_order (records_in more) y.r ≡ true
    → IsItemAllowed bytes unit wanted more y.at y.r up → IsGood bytes unit wanted past at
good_at bytes unit wanted past at y more up same stands order allowed =
    subst (λ xs. IsGood bytes unit wanted xs at) (sym same.0) (
    subst (λ n. IsGood bytes unit wanted more n) (sym same.1) (record { r = y.r; next = up; stands = stands; order = order; allowed = allowed })
    )

good_in : (bytes : List ℕ) (unit : ℕ) (wanted : List Pair) (past : List Item) (at : ℕ) (more : List Item) (up : ℕ)
    → Extends past at more up → AreItemsEndToEnd bytes more up → AreItemsAllowed bytes unit wanted more up → IsGood bytes unit wanted past at
good_in bytes unit wanted past at [] up on run allowed = absurd on
good_in bytes unit wanted past at (y ∷ more) up (inl same) run allowed =
    good_at bytes unit wanted past at y more up same run.0 allowed.0 allowed.1
good_in bytes unit wanted past at (y ∷ more) up (inr on) run allowed = good_in bytes unit wanted past at more y.at on run.1 allowed.2

abbrev Fault : List ℕ → ℕ → List Pair → List Item → ℕ → OasBad → Type 0
Fault bytes unit wanted past at bad = IsLexicalFault bytes past at bad ⊎ IsOasisRecordFault bytes unit wanted past at bad

not_some : {A : Type 0} → (o : Option A) (a : A) → o ≡ None → o ≡ Some a → ⊥
not_some o a none some = absurd (let e : None ≡ Some a = sym none ∙ some in cc)

not_refused : (bytes : List ℕ) (unit : ℕ) (wanted : List Pair) (past : List Item) (at : ℕ) (r : OasRecord) (next : ℕ) (bad : OasBad)
    → is_in_order (records_in past) r ≡ true → IsItemAllowed bytes unit wanted past at r next → IsRefused bytes unit wanted past at r next bad → ⊥
not_refused bytes unit wanted past at r next bad order allowed (inl f) = ends_not (is_in_order (records_in past) r) order f.order
not_refused bytes unit wanted past at r next bad order allowed (inr (inl f)) =
    not_some (undefined_of (records_in past) r) f.variable allowed.defined f.undefined
not_refused bytes unit wanted past at r next bad order allowed (inr (inr (inl f))) = f.broken.broken (allowed.rules f.rule)
not_refused bytes unit wanted past at r next bad order allowed (inr (inr (inr (inl f)))) =
    not_some (conflict_of bytes past r) f.first allowed.names f.conflict
not_refused bytes unit wanted past at r next bad order allowed (inr (inr (inr (inr (inl f))))) = f.disagrees allowed.unit_agrees
not_refused bytes unit wanted past at r next bad order allowed (inr (inr (inr (inr (inr f))))) = f.tail (allowed.tail f.ends)

no_fault : (bytes : List ℕ) (unit : ℕ) (wanted : List Pair) (past : List Item) (at : ℕ) (bad : OasBad) → OneRecord → RecordOrFault
    → IsGood bytes unit wanted past at → Fault bytes unit wanted past at bad → ⊥
no_fault bytes unit wanted past at bad one apart good (inl f) =
    apart bytes at (tables_at_end (records_in past)) good.r good.next f.cause good.stands f.none
no_fault bytes unit wanted past at bad one apart good (inr f) =
    let both = one bytes at (tables_at_end (records_in past)) f.r good.r f.next good.next f.stands good.stands in
    let refused : IsRefused bytes unit wanted past at good.r good.next bad =
    subst (λ n. IsRefused bytes unit wanted past at good.r n bad) both.1 (subst (λ r. IsRefused bytes unit wanted past at r f.next bad) both.0 f.refused) in
    not_refused bytes unit wanted past at good.r good.next bad good.order good.allowed refused

-- ---- one fault at one place

lowest_unique : (K : ℕ → Type 0) (m n : ℕ) → IsLowest K m → IsLowest K n → m ≡ n
lowest_unique K m n p q = elim (cases_lt m n) [
  | inl below ↦ absurd (p.broken (q.lower m below))
  | inr above ↦ elim (cases_lt n m) [
    | inl below ↦ absurd (q.broken (p.lower n below))
    | inr same ↦ omega arith
  ]
]

some_inj : {A : Type 0} → (o : Option A) (a b : A) → o ≡ Some a → o ≡ Some b → a ≡ b
some_inj o a b p q = let e : Some a ≡ Some b = sym p ∙ q in cc

abbrev Late : List ℕ → ℕ → List Pair → List Item → ℕ → OasRecord → ℕ → OasBad → Type 0
Late bytes unit wanted past at r next bad =
    IsOasisNameFault bytes wanted past at r bad ⊎ IsOasisUnitFault bytes unit wanted past at r bad ⊎ IsOasisTailFault bytes unit wanted past at r next bad

abbrev Valued : List ℕ → ℕ → List Pair → List Item → ℕ → OasRecord → ℕ → OasBad → Type 0
Valued bytes unit wanted past at r next bad = IsOasisValueFault bytes wanted past at r bad ⊎ Late bytes unit wanted past at r next bad

abbrev Ordered : List ℕ → ℕ → List Pair → List Item → ℕ → OasRecord → ℕ → OasBad → Type 0
Ordered bytes unit wanted past at r next bad = IsUndefinedFault past at r bad ⊎ Valued bytes unit wanted past at r next bad

rules_of : (bytes : List ℕ) (unit : ℕ) (wanted : List Pair) (past : List Item) (at : ℕ) (r : OasRecord) (next : ℕ) (bad : OasBad)
    → Late bytes unit wanted past at r next bad → KeepsOasisRules bytes wanted (records_in past) r
rules_of bytes unit wanted past at r next bad (inl f) = f.rules
rules_of bytes unit wanted past at r next bad (inr (inl f)) = f.rules
rules_of bytes unit wanted past at r next bad (inr (inr f)) = f.rules

defined_of : (bytes : List ℕ) (unit : ℕ) (wanted : List Pair) (past : List Item) (at : ℕ) (r : OasRecord) (next : ℕ) (bad : OasBad)
    → Valued bytes unit wanted past at r next bad → HasAllNeeded past r
defined_of bytes unit wanted past at r next bad (inl f) = f.defined
defined_of bytes unit wanted past at r next bad (inr (inl f)) = f.defined
defined_of bytes unit wanted past at r next bad (inr (inr (inl f))) = f.defined
defined_of bytes unit wanted past at r next bad (inr (inr (inr f))) = f.defined

order_of : (bytes : List ℕ) (unit : ℕ) (wanted : List Pair) (past : List Item) (at : ℕ) (r : OasRecord) (next : ℕ) (bad : OasBad)
    → Ordered bytes unit wanted past at r next bad → is_in_order (records_in past) r ≡ true
order_of bytes unit wanted past at r next bad (inl f) = f.order
order_of bytes unit wanted past at r next bad (inr f) = (defined_of bytes unit wanted past at r next bad f).order

same_late : (bytes : List ℕ) (unit : ℕ) (wanted : List Pair) (past : List Item) (at : ℕ) (r : OasRecord) (next : ℕ) (one other : OasBad)
    → Late bytes unit wanted past at r next one → Late bytes unit wanted past at r next other → one ≡ other
same_late bytes unit wanted past at r next one other (inl f) (inl g) =
    f.bad_is ∙ ap (λ n. faults.Names n at) (some_inj (conflict_of bytes past r) f.first g.first f.conflict g.conflict) ∙ sym g.bad_is
same_late bytes unit wanted past at r next one other (inl f) (inr (inl g)) = absurd (not_some (conflict_of bytes past r) f.first g.names f.conflict)
same_late bytes unit wanted past at r next one other (inl f) (inr (inr g)) = absurd (not_some (conflict_of bytes past r) f.first g.names f.conflict)
same_late bytes unit wanted past at r next one other (inr (inl f)) (inl g) = absurd (not_some (conflict_of bytes past r) g.first f.names g.conflict)
same_late bytes unit wanted past at r next one other (inr (inl f)) (inr (inl g)) = f.bad_is ∙ sym g.bad_is
same_late bytes unit wanted past at r next one other (inr (inl f)) (inr (inr g)) = absurd (f.disagrees g.unit_agrees)
same_late bytes unit wanted past at r next one other (inr (inr f)) (inl g) = absurd (not_some (conflict_of bytes past r) g.first f.names g.conflict)
same_late bytes unit wanted past at r next one other (inr (inr f)) (inr (inl g)) = absurd (g.disagrees f.unit_agrees)
same_late bytes unit wanted past at r next one other (inr (inr f)) (inr (inr g)) = f.bad_is ∙ sym g.bad_is

same_value : (bytes : List ℕ) (unit : ℕ) (wanted : List Pair) (past : List Item) (at : ℕ) (r : OasRecord) (next : ℕ) (one other : OasBad)
    → Valued bytes unit wanted past at r next one → Valued bytes unit wanted past at r next other → one ≡ other
same_value bytes unit wanted past at r next one other (inl f) (inl g) =
    f.bad_is
    ∙ ap (λ rule. faults.Value at rule) (lowest_unique (KeepsOasisRule bytes wanted (records_in past) r) f.rule g.rule f.broken g.broken)
    ∙ sym g.bad_is
same_value bytes unit wanted past at r next one other (inl f) (inr g) =
    absurd (f.broken.broken (rules_of bytes unit wanted past at r next other g f.rule))
same_value bytes unit wanted past at r next one other (inr f) (inl g) =
    absurd (g.broken.broken (rules_of bytes unit wanted past at r next one f g.rule))
same_value bytes unit wanted past at r next one other (inr f) (inr g) = same_late bytes unit wanted past at r next one other f g

same_ordered : (bytes : List ℕ) (unit : ℕ) (wanted : List Pair) (past : List Item) (at : ℕ) (r : OasRecord) (next : ℕ) (one other : OasBad)
    → Ordered bytes unit wanted past at r next one → Ordered bytes unit wanted past at r next other → one ≡ other
same_ordered bytes unit wanted past at r next one other (inl f) (inl g) =
    f.bad_is
    ∙ ap (λ v. faults.Undefined at v) (some_inj (undefined_of (records_in past) r) f.variable g.variable f.undefined g.undefined)
    ∙ sym g.bad_is
same_ordered bytes unit wanted past at r next one other (inl f) (inr g) =
    absurd (not_some (undefined_of (records_in past) r) f.variable (defined_of bytes unit wanted past at r next other g).defined f.undefined)
same_ordered bytes unit wanted past at r next one other (inr f) (inl g) =
    absurd (not_some (undefined_of (records_in past) r) g.variable (defined_of bytes unit wanted past at r next one f).defined g.undefined)
same_ordered bytes unit wanted past at r next one other (inr f) (inr g) = same_value bytes unit wanted past at r next one other f g

same_refusal : (bytes : List ℕ) (unit : ℕ) (wanted : List Pair) (past : List Item) (at : ℕ) (r : OasRecord) (next : ℕ) (one other : OasBad)
    → IsRefused bytes unit wanted past at r next one → IsRefused bytes unit wanted past at r next other → one ≡ other
same_refusal bytes unit wanted past at r next one other (inl f) (inl g) = f.bad_is ∙ sym g.bad_is
same_refusal bytes unit wanted past at r next one other (inl f) (inr g) =
    absurd (ends_not (is_in_order (records_in past) r) (order_of bytes unit wanted past at r next other g) f.order)
same_refusal bytes unit wanted past at r next one other (inr f) (inl g) =
    absurd (ends_not (is_in_order (records_in past) r) (order_of bytes unit wanted past at r next one f) g.order)
same_refusal bytes unit wanted past at r next one other (inr f) (inr g) = same_ordered bytes unit wanted past at r next one other f g

same_fault : (bytes : List ℕ) (unit : ℕ) (wanted : List Pair) (past : List Item) (at : ℕ) (one other : OasBad)
    → OneRecord → RecordOrFault → OneCause
    → Fault bytes unit wanted past at one → Fault bytes unit wanted past at other → one ≡ other
same_fault bytes unit wanted past at one other law apart cause (inl f) (inl g) =
    f.bad_is ∙ ap (λ c. faults.Lexical at c) (cause bytes at (tables_at_end (records_in past)) f.cause g.cause f.none g.none) ∙ sym g.bad_is
same_fault bytes unit wanted past at one other law apart cause (inl f) (inr g) =
    absurd (apart bytes at (tables_at_end (records_in past)) g.r g.next f.cause g.stands f.none)
same_fault bytes unit wanted past at one other law apart cause (inr f) (inl g) =
    absurd (apart bytes at (tables_at_end (records_in past)) f.r f.next g.cause f.stands g.none)
same_fault bytes unit wanted past at one other law apart cause (inr f) (inr g) =
    let both = law bytes at (tables_at_end (records_in past)) f.r g.r f.next g.next f.stands g.stands in
    let refused : IsRefused bytes unit wanted past at g.r g.next one =
    subst (λ n. IsRefused bytes unit wanted past at g.r n one) both.1 (subst (λ r. IsRefused bytes unit wanted past at r f.next one) both.0 f.refused) in
    same_refusal bytes unit wanted past at g.r g.next one other refused g.refused

-- ---- whole files

-- records of which none ends aren't whole
not_whole : (xs : List Item) (last : Item) (past : List Item) → xs ≡ last ∷ past → NoItemEnds xs → is_end last.r ≡ true → ⊥
not_whole [] last past e none ends = absurd (cc)
not_whole (x ∷ xs) last past e none ends =
    let same : x ≡ last = cc in
    ends_not (is_end last.r) ends (subst (λ y. is_end y.r ≡ false) same none.0)

one_whole : (bytes : List ℕ) (unit : ℕ) (wanted : List Pair) (last : Item) (past : List Item) (next : ℕ) (end : Item) (more : List Item) (up : ℕ)
    → OneRecord → IsWholeFile bytes unit wanted last past next → IsWholeFile bytes unit wanted end more up → (last ∷ past) ≡ (end ∷ more)
one_whole bytes unit wanted last past next end more up law p q =
    elim (compare bytes (last ∷ past) next (end ∷ more) up law (p.stands, p.read.run) (q.stands, q.read.run)) [
      | inl same ↦ same.0
      | inr (inl (inl same)) ↦ absurd (not_whole more last past (sym same.0) q.read.goes_on p.ends)
      | inr (inl (inr on)) ↦ absurd (ends_not (is_end last.r) p.ends (none_before (last ∷ past) next more end.at on q.read.goes_on).0)
      | inr (inr (inl same)) ↦ absurd (not_whole past end more (sym same.0) p.read.goes_on q.ends)
      | inr (inr (inr on)) ↦ absurd (ends_not (is_end end.r) q.ends (none_before (end ∷ more) up past last.at on p.read.goes_on).0)
    ]

-- a fault of one record isn't in a whole file
not_within : (bytes : List ℕ) (unit : ℕ) (wanted : List Pair) (last : Item) (past : List Item) (next : ℕ) (bad : OasBad)
    → OneRecord → RecordOrFault → IsWholeFile bytes unit wanted last past next → IsFaultWithin bytes unit wanted bad → ⊥
not_within bytes unit wanted last past next bad law apart p f =
    elim (compare bytes f.past f.at (last ∷ past) next law f.read.run (p.stands, p.read.run)) [
      | inl same ↦ not_whole f.past last past same.0 f.read.goes_on p.ends
      | inr (inl on) ↦
          no_fault bytes unit wanted f.past f.at bad law apart
          (good_in bytes unit wanted f.past f.at (last ∷ past) next on (p.stands, p.read.run) (p.order, p.allowed, p.read.allowed)) f.fault
      | inr (inr on) ↦ ends_not (is_end last.r) p.ends (none_before (last ∷ past) next f.past f.at on f.read.goes_on).0
    ]

-- ---- names after END

same_behind : (bytes : List ℕ) (all : List Item) (one other : OasBad) → IsFaultOfNames bytes all one → IsFaultOfNames bytes all other → one ≡ other
same_behind bytes all one other (inl f) (inl g) =
    f.2 ∙ ap (λ n. faults.Value n 3) (some_inj (first_unknown bytes (records_in all) all) f.0 g.0 f.1 g.1) ∙ sym g.2
same_behind bytes all one other (inl f) (inr g) = absurd (not_some (first_unknown bytes (records_in all) all) f.0 g.2 f.1)
same_behind bytes all one other (inr f) (inl g) = absurd (not_some (first_unknown bytes (records_in all) all) g.0 f.2 g.1)
same_behind bytes all one other (inr f) (inr g) =
    let twins : (f.0, f.1) ≡ (g.0, g.1) = some_inj (first_twins bytes (records_in all) all) (f.0, f.1) (g.0, g.1) f.3 g.3 in
    f.4 ∙ ap (λ p. faults.Names p.0 p.1) twins ∙ sym g.4

not_behind : (bytes : List ℕ) (all : List Item) (bad : OasBad) → first_unknown bytes (records_in all) all ≡ None
    → first_twins bytes (records_in all) all ≡ None → IsFaultOfNames bytes all bad → ⊥
not_behind bytes all bad known distinct (inl f) = not_some (first_unknown bytes (records_in all) all) f.0 known f.1
not_behind bytes all bad known distinct (inr f) = not_some (first_twins bytes (records_in all) all) (f.0, f.1) distinct f.3

-- ---- the laws

pub one_layout : OneRecord → OneLayout
one_layout law bytes unit wanted one other p q =
    let same : (p.last ∷ p.past) ≡ (q.last ∷ q.past) =
    one_whole bytes unit wanted p.last p.past p.next q.last q.past q.next law p.whole q.whole in
    p.layout_is ∙ ap (λ xs. layout_of bytes wanted (records_in xs)) same ∙ sym q.layout_is

same_within : (bytes : List ℕ) (unit : ℕ) (wanted : List Pair) (one other : OasBad) → OneRecord → RecordOrFault → OneCause
    → IsFaultWithin bytes unit wanted one → IsFaultWithin bytes unit wanted other → one ≡ other
same_within bytes unit wanted one other law apart cause f g =
    elim (compare bytes f.past f.at g.past g.at law f.read.run g.read.run) [
      | inl same ↦
          same_fault bytes unit wanted f.past f.at one other law apart cause f.fault
          (subst (λ xs. Fault bytes unit wanted xs f.at other) (sym same.0) (subst (λ n. Fault bytes unit wanted g.past n other) (sym same.1) g.fault))
      | inr (inl on) ↦
          absurd (no_fault bytes unit wanted f.past f.at one law apart (good_in bytes unit wanted f.past f.at g.past g.at on g.read.run g.read.allowed) f.fault)
      | inr (inr on) ↦
          absurd (no_fault bytes unit wanted g.past g.at other law apart
          (good_in bytes unit wanted g.past g.at f.past f.at on f.read.run f.read.allowed) g.fault)
    ]

pub one_fault : OneRecord → RecordOrFault → OneCause → OneFault
one_fault law apart cause bytes unit wanted one other (inl f) (inl g) = f.bad_is ∙ sym g.bad_is
one_fault law apart cause bytes unit wanted one other (inl f) (inr (inl g)) = absurd (f.begins g.read.begins)
one_fault law apart cause bytes unit wanted one other (inl f) (inr (inr g)) = absurd (f.begins g.whole.read.begins)
one_fault law apart cause bytes unit wanted one other (inr (inl f)) (inl g) = absurd (g.begins f.read.begins)
one_fault law apart cause bytes unit wanted one other (inr (inl f)) (inr (inl g)) = same_within bytes unit wanted one other law apart cause f g
one_fault law apart cause bytes unit wanted one other (inr (inl f)) (inr (inr g)) =
    absurd (not_within bytes unit wanted g.last g.past g.next one law apart g.whole f)
one_fault law apart cause bytes unit wanted one other (inr (inr f)) (inl g) = absurd (g.begins f.whole.read.begins)
one_fault law apart cause bytes unit wanted one other (inr (inr f)) (inr (inl g)) =
    absurd (not_within bytes unit wanted f.last f.past f.next other law apart f.whole g)
one_fault law apart cause bytes unit wanted one other (inr (inr f)) (inr (inr g)) =
    let same : (f.last ∷ f.past) ≡ (g.last ∷ g.past) =
    one_whole bytes unit wanted f.last f.past f.next g.last g.past g.next law f.whole g.whole in
    same_behind bytes (g.last ∷ g.past) one other (subst (λ xs. IsFaultOfNames bytes xs one) same f.fault) g.fault

pub no_layout_with_fault : OneRecord → RecordOrFault → NoLayoutWithFault
no_layout_with_fault law apart bytes unit wanted layout bad p (inl f) = f.begins p.whole.read.begins
no_layout_with_fault law apart bytes unit wanted layout bad p (inr (inl f)) =
    not_within bytes unit wanted p.last p.past p.next bad law apart p.whole f
no_layout_with_fault law apart bytes unit wanted layout bad p (inr (inr f)) =
    let same : (f.last ∷ f.past) ≡ (p.last ∷ p.past) =
    one_whole bytes unit wanted f.last f.past f.next p.last p.past p.next law f.whole p.whole in
    not_behind bytes (p.last ∷ p.past) bad p.known p.distinct (subst (λ xs. IsFaultOfNames bytes xs bad) same f.fault)
