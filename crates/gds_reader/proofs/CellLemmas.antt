-- The names of the cells of allowed records differ.
use Rattle.std.proofs.Common.{◌≡◌, ℕ, suc, ◌+◌, ◌≤◌, Bool, true, false, cond, List, [], ◌∷◌, ◌++◌, map, length, Option}
use Rattle.std.proofs.Common.{Some, None, refl, sym, ap, subst, ◌∙◌, ◌⊎◌, inl, inr, arith}
use Rattle.std.specs.Prelude.{◌≢◌, All}
use Rattle.std.specs.List.{AllByRecursion}
use Rattle.std.proofs.lemmas.List.{append-nil, map-append}
use Rattle.std.proofs.lemmas.List.Elements.{All-append, All-cons, All-nil}
use Rattle.layout_model.specs.Layouts.{AreDistinct}
use Rattle.layout_model.specs.declared.pair.Pair.{Pair}
use Rattle.layout_model.specs.declared.cells.Cell.{Cell}
use Rattle.gds_record.specs.declared.kinds.Kind.TheVariants.{StrName, EndStr}
use Rattle.gds_record.specs.declared.records.Record.{Record}
use Rattle.gds_reader.specs.Past.{has_kind, structure_record, count_in}
use Rattle.gds_reader.specs.Values.{name_in}
use Rattle.gds_reader.specs.Meaning.{cells_of, cells_named}
use Rattle.gds_reader.specs.Reading.{IsNamedBefore, IsRecordAllowed, AreRecordsAllowed}
use Rattle.gds_reader.proofs.KindLemmas.{same_kind_is}

-- ---- counts

one_more : (b : Bool) (n m : ℕ) → n ≤ m → n + cond b 1 0 ≤ suc m
one_more true n m h = omega arith
one_more false n m h = omega arith

pub count_few : (test : List Record → Record → Bool) (past : List Record) → count_in test past ≤ length past
count_few test [] = omega arith
count_few test (r ∷ past) = one_more (test past r) (count_in test past) (length past) (count_few test past)

-- ---- lists of names that differ

all_names_end : (P : List ℕ → Type 0) (names : List (List ℕ)) (name : List ℕ) → AllByRecursion P names → P name → AllByRecursion P (names ++ name ∷ [])
all_names_end P [] name all one = (one, tt)
all_names_end P (x ∷ names) name all one = (all.0, all_names_end P names name all.1 one)

all_names_map : (P Q : List ℕ → Type 0) (names : List (List ℕ)) → ((n : List ℕ) → P n → Q n) → AllByRecursion P names → AllByRecursion Q names
all_names_map P Q [] f all = tt
all_names_map P Q (x ∷ names) f all = (f x all.0, all_names_map P Q names f all.1)

differs_end : (x : List ℕ) (names : List (List ℕ)) (name : List ℕ) → All (λ other. x ≢ other) names → x ≢ name → All (λ other. x ≢ other) (names ++ name ∷ [])
differs_end x names name all one =
    All-append (λ other. x ≢ other) names (name ∷ []) all (All-cons (λ other. x ≢ other) name [] one (All-nil (λ other. x ≢ other)))

distinct_end : (names : List (List ℕ)) (name : List ℕ) → AreDistinct names → AllByRecursion (λ n. n ≢ name) names → AreDistinct (names ++ name ∷ [])
distinct_end [] name distinct new = (All-nil (λ other. name ≢ other), tt)
distinct_end (x ∷ names) name distinct new = (differs_end x names name distinct.0 new.0, distinct_end names name distinct.1 new.1)

-- ---- the names of STRNAME records

unfoldable HasName : List ℕ → List ℕ → List Record → Type 0
HasName bytes name [] = ⊥
HasName bytes name (x ∷ past) = ((x.kind ≡ StrName) × (name_in bytes x ≡ name)) ⊎ HasName bytes name past

has_named : (bytes : List ℕ) (r : Record) (past : List Record) → HasName bytes (name_in bytes r) past → IsNamedBefore bytes past r
unfolding HasName
has_named bytes r [] h = h
has_named bytes r (x ∷ past) (inl h) = inl h
has_named bytes r (x ∷ past) (inr h) = inr (has_named bytes r past h)

has_here : (bytes : List ℕ) (r : Record) (past : List Record) → r.kind ≡ StrName → HasName bytes (name_in bytes r) (r ∷ past)
unfolding HasName
has_here bytes r past kind = inl (kind, refl)

has_more : (bytes name : List ℕ) (r : Record) (past : List Record) → HasName bytes name past → HasName bytes name (r ∷ past)
unfolding HasName
has_more bytes name r past h = inr h

-- ---- names of cells

abbrev cell_names : List Cell → List (List ℕ)
cell_names cells = map (λ (cell : Cell). cell.name) cells

record IsDistinct (bytes : List ℕ) (wanted : List Pair) (past : List Record) : Type 0 where
  named : AllByRecursion (λ name. HasName bytes name past) (cell_names (cells_of bytes wanted past))
  open_new : (s : Record) → structure_record StrName past ≡ Some s
      → AllByRecursion (λ name. name ≢ name_in bytes s) (cell_names (cells_of bytes wanted past))
  open_named : (s : Record) → structure_record StrName past ≡ Some s → HasName bytes (name_in bytes s) past
  distinct : AreDistinct (cell_names (cells_of bytes wanted past))

-- the cells after one more record, by its kind
cells_end : (bytes : List ℕ) (wanted : List Pair) (past : List Record) (r : Record) (o : Option Record) → has_kind EndStr r ≡ true
    → structure_record StrName past ≡ o
    → cell_names (cells_of bytes wanted (r ∷ past)) ≡ cell_names (cells_of bytes wanted past) ++ cell_names (cells_named bytes wanted past o)
cells_end bytes wanted past r o end opened =
    ap (λ b. cell_names (cells_of bytes wanted past ++ cond b (cells_named bytes wanted past (structure_record StrName past)) [])) end
    ∙ ap (λ x. cell_names (cells_of bytes wanted past ++ cells_named bytes wanted past x)) opened
    ∙ map-append (λ (cell : Cell). cell.name) (cells_of bytes wanted past) (cells_named bytes wanted past o)

cells_same : (bytes : List ℕ) (wanted : List Pair) (past : List Record) (r : Record) → has_kind EndStr r ≡ false
    → cell_names (cells_of bytes wanted (r ∷ past)) ≡ cell_names (cells_of bytes wanted past)
cells_same bytes wanted past r other =
    ap (λ b. cell_names (cells_of bytes wanted past ++ cond b (cells_named bytes wanted past (structure_record StrName past)) [])) other
    ∙ ap cell_names (append-nil (cells_of bytes wanted past))

no_open : (r : Record) (past : List Record) → has_kind EndStr r ≡ true → structure_record StrName (r ∷ past) ≡ None
no_open r past end = ap (λ b. cond b None (cond (has_kind StrName r) (Some r) (structure_record StrName past))) end

open_here : (r : Record) (past : List Record) → has_kind EndStr r ≡ false → has_kind StrName r ≡ true → structure_record StrName (r ∷ past) ≡ Some r
open_here r past other name =
    ap (λ b. cond b None (cond (has_kind StrName r) (Some r) (structure_record StrName past))) other
    ∙ ap (λ b. cond b (Some r) (structure_record StrName past)) name

open_same : (r : Record) (past : List Record) → has_kind EndStr r ≡ false → has_kind StrName r ≡ false
    → structure_record StrName (r ∷ past) ≡ structure_record StrName past
open_same r past other name =
    ap (λ b. cond b None (cond (has_kind StrName r) (Some r) (structure_record StrName past))) other
    ∙ ap (λ b. cond b (Some r) (structure_record StrName past)) name

with_end : (bytes : List ℕ) (wanted : List Pair) (past : List Record) (r : Record) (o : Option Record) → has_kind EndStr r ≡ true
    → structure_record StrName past ≡ o → IsDistinct bytes wanted past → IsDistinct bytes wanted (r ∷ past)
with_end bytes wanted past r None end opened d =
    let names : cell_names (cells_of bytes wanted (r ∷ past)) ≡ cell_names (cells_of bytes wanted past) =
    cells_end bytes wanted past r None end opened ∙ append-nil (cell_names (cells_of bytes wanted past)) in
    record {
      named = subst (AllByRecursion (λ name. HasName bytes name (r ∷ past))) (sym names)
          (all_names_map (λ name. HasName bytes name past) (λ name. HasName bytes name (r ∷ past))
          (cell_names (cells_of bytes wanted past)) (λ name. has_more bytes name r past) d.named);
      open_new = λ s e. absurd (let none = no_open r past end in cc);
      open_named = λ s e. absurd (let none = no_open r past end in cc);
      distinct = subst AreDistinct (sym names) d.distinct;
    }
with_end bytes wanted past r (Some s) end opened d =
    let names = cells_end bytes wanted past r (Some s) end opened in
    let before = cell_names (cells_of bytes wanted past) in
    record {
      named = subst (AllByRecursion (λ name. HasName bytes name (r ∷ past))) (sym names)
          (all_names_end (λ name. HasName bytes name (r ∷ past)) before (name_in bytes s)
          (all_names_map (λ name. HasName bytes name past) (λ name. HasName bytes name (r ∷ past)) before (λ name. has_more bytes name r past) d.named)
          (has_more bytes (name_in bytes s) r past (d.open_named s opened)));
      open_new = λ t e. absurd (let none = no_open r past end in cc);
      open_named = λ t e. absurd (let none = no_open r past end in cc);
      distinct = subst AreDistinct (sym names) (distinct_end before (name_in bytes s) d.distinct (d.open_new s opened));
    }

with_name : (bytes : List ℕ) (wanted : List Pair) (past : List Record) (r : Record) → has_kind EndStr r ≡ false → has_kind StrName r ≡ true
    → ¬ IsNamedBefore bytes past r → IsDistinct bytes wanted past → IsDistinct bytes wanted (r ∷ past)
with_name bytes wanted past r other name new d =
    let names = cells_same bytes wanted past r other in
    let before = cell_names (cells_of bytes wanted past) in
    let kind : r.kind ≡ StrName = same_kind_is r.kind StrName name in
    record {
      named = subst (AllByRecursion (λ name. HasName bytes name (r ∷ past))) (sym names)
          (all_names_map (λ name. HasName bytes name past) (λ name. HasName bytes name (r ∷ past)) before (λ name. has_more bytes name r past) d.named);
      open_new = λ s e.
          let same : r ≡ s = (let here = open_here r past other name in cc) in
          subst (λ x. AllByRecursion (λ name. name ≢ name_in bytes x) (cell_names (cells_of bytes wanted (r ∷ past)))) same
          (subst (AllByRecursion (λ name. name ≢ name_in bytes r)) (sym names)
          (all_names_map (λ name. HasName bytes name past) (λ name. name ≢ name_in bytes r) before
          (λ n has is. new (has_named bytes r past (subst (λ m. HasName bytes m past) is has))) d.named));
      open_named = λ s e.
          let same : r ≡ s = (let here = open_here r past other name in cc) in
          subst (λ x. HasName bytes (name_in bytes x) (r ∷ past)) same (has_here bytes r past kind);
      distinct = subst AreDistinct (sym names) d.distinct;
    }

with_other : (bytes : List ℕ) (wanted : List Pair) (past : List Record) (r : Record) → has_kind EndStr r ≡ false → has_kind StrName r ≡ false
    → IsDistinct bytes wanted past → IsDistinct bytes wanted (r ∷ past)
with_other bytes wanted past r other name d =
    let names = cells_same bytes wanted past r other in
    let before = cell_names (cells_of bytes wanted past) in
    let opened = open_same r past other name in
    record {
      named = subst (AllByRecursion (λ name. HasName bytes name (r ∷ past))) (sym names)
          (all_names_map (λ name. HasName bytes name past) (λ name. HasName bytes name (r ∷ past)) before (λ name. has_more bytes name r past) d.named);
      open_new = λ s e. subst (AllByRecursion (λ name. name ≢ name_in bytes s)) (sym names) (d.open_new s (sym opened ∙ e));
      open_named = λ s e. has_more bytes (name_in bytes s) r past (d.open_named s (sym opened ∙ e));
      distinct = subst AreDistinct (sym names) d.distinct;
    }

with_record : (bytes : List ℕ) (unit : ℕ) (wanted : List Pair) (past : List Record) (r : Record) (k n : Bool) → has_kind EndStr r ≡ k → has_kind StrName r ≡ n
    → IsRecordAllowed bytes unit wanted past r → IsDistinct bytes wanted past → IsDistinct bytes wanted (r ∷ past)
with_record bytes unit wanted past r true n end name allowed d = with_end bytes wanted past r (structure_record StrName past) end refl d
with_record bytes unit wanted past r false true end name allowed d =
    with_name bytes wanted past r end name (allowed.new_name (same_kind_is r.kind StrName name)) d
with_record bytes unit wanted past r false false end name allowed d = with_other bytes wanted past r end name d

all_distinct : (bytes : List ℕ) (unit : ℕ) (wanted : List Pair) (past : List Record) → AreRecordsAllowed bytes unit wanted past → IsDistinct bytes wanted past
all_distinct bytes unit wanted [] allowed = record {
  named = tt;
  open_new = λ s e. absurd (cc);
  open_named = λ s e. absurd (cc);
  distinct = tt;
}
all_distinct bytes unit wanted (r ∷ past) allowed =
    with_record bytes unit wanted past r (has_kind EndStr r) (has_kind StrName r) refl refl allowed.0 (all_distinct bytes unit wanted past allowed.1)

pub names_distinct : (bytes : List ℕ) (unit : ℕ) (wanted : List Pair) (past : List Record) → AreRecordsAllowed bytes unit wanted past
    → AreDistinct (map (λ (cell : Cell). cell.name) (cells_of bytes wanted past))
names_distinct bytes unit wanted past allowed = (all_distinct bytes unit wanted past allowed).distinct
