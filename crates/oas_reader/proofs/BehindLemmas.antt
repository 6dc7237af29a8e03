-- The cells of a whole file, by the cells that are kept.
use Rattle.std.proofs.Common.{◌≡◌, ◌≢◌, ℕ, nat_eq, Bool, true, false, if◌then◌else◌, ◌&&◌, List, [], ◌∷◌, ◌++◌}
use Rattle.std.proofs.Common.{Option, Some, None, Result, Ok, Err, map, reverse, All, inr, refl, sym, ap, subst}
use Rattle.std.proofs.Common.{◌∙◌, append-nil, arith}
use Rattle.std.specs.Prelude.{IfOk, OnOk, is_some}
use Rattle.std.proofs.lemmas.List.{map-append, reverse-append, reverse-reverse}
use Rattle.std.proofs.lemmas.List.Elements.{All-nil, All-cons, All-head, All-tail, All-push, All-same}
use mathlib.Core.List.{reverse-cons}
use Rattle.geo_stream.specs.Refusals.{IsForFault}
use Rattle.geo_stream.specs.declared.refusal.Refusal.{Refusal}
use Rattle.geo_stream.specs.declared.refusal.Refusal.TheVariants.{Fault, NoMemory}
use Rattle.layout_model.specs.Layouts.{AreDistinct}
use Rattle.layout_model.specs.declared.cells.Cell.{Cell}
use Rattle.layout_model.specs.declared.pair.Pair.{Pair}
use Rattle.layout_model.specs.declared.shapes.Shape.{Shape}
use Rattle.oas_record.specs.declared.fields.Called.{Called}
use Rattle.oas_record.specs.declared.records.OasRecord.{OasRecord}
use Rattle.oas_record.specs.declared.records.OasRecord.TheVariants as records
use Rattle.oas_record.specs.declared.shapes.ShapeKind.TheVariants as shapes
use Rattle.oas_fields.specs.Values.{or_else, begins_cell}
use Rattle.oas_reader.specs.declared.cells.Begun.{Begun}
use Rattle.oas_reader.specs.declared.cells.Draft.{Draft}
use Rattle.oas_reader.specs.declared.refusing.OasBad.{OasBad}
use Rattle.oas_reader.specs.Behind.{AreCellsBehind}
use Rattle.oas_reader.specs.Finished.{cell_by, cells_by, cell_item, cell_items, AreTwins}
use Rattle.oas_reader.specs.Items.{Item, records_in, NoItemEnds, is_end, given}
use Rattle.oas_reader.specs.Meaning.{Placing, name_or, named, is_wanted, given_in_cell, shapes_at, placings_at, open_cell, cells_called, ends_cell, cells_at}
use Rattle.oas_reader.specs.Names.{some_if, is_none, same_name, have_one_name, cell_called, target_called, cell_name}
use Rattle.oas_reader.specs.Names.{name_called, is_unknown, first_unknown, first_named, with_second, first_twins}
use Rattle.oas_reader.specs.Naming.{cell_record}
use Rattle.oas_reader.specs.Reading.{item, IsFaultOfNames}
use Rattle.oas_reader.specs.Readers.{WholeCell, whole_cell, begun_by, begun_of, whole_by, whole_of}
use Rattle.oas_reader.proofs.FinishLemmas.{called_back, cell_before, only_cells, twins_only}

-- ---- the cells by name

-- a cell that is whole, by name
abbrev pub cell_whole : List ℕ → List OasRecord → WholeCell → Cell
cell_whole bytes all w = record { name = name_or (name_called bytes all w.begun.called); shapes = w.shapes; placements = named bytes all w.placings }

cells_whole : (bytes : List ℕ) (all : List OasRecord) (drafts : List Draft)
    → cells_by bytes all drafts ≡ map (cell_whole bytes all) (map whole_cell drafts)
cells_whole bytes all [] = refl
cells_whole bytes all (draft ∷ drafts) = ap (λ cells. cell_by bytes all draft ∷ cells) (cells_whole bytes all drafts)

abbrev pub called_begun : Option Begun → Option Called
called_begun None = None
called_begun (Some begun) = Some begun.called

called_step : (x : Item) (called : Option Called) (before : Option Begun) (last : Option Called) → last ≡ called_begun before
    → or_else called last ≡ called_begun (begun_by x called before)
called_step x None before last e = e
called_step x (Some called) before last e = refl

-- the open cell's name is that of the last CELL record
called_last : (past : List Item) → open_cell (records_in past) ≡ called_begun (begun_of past)
called_last [] = refl
called_last (x ∷ past) = called_step x (cell_called x.r) (begun_of past) (open_cell (records_in past)) (called_last past)

open_whole : (bytes : List ℕ) (all : List OasRecord) (wanted : List Pair) (past : List OasRecord) (begun : Option Begun)
    → map (cell_whole bytes all) (whole_by begun (given_in_cell (shapes_at wanted) past) (given_in_cell placings_at past))
    ≡ cells_called bytes all wanted past (called_begun begun)
open_whole bytes all wanted past None = refl
open_whole bytes all wanted past (Some begun) = refl

last_whole : (bytes : List ℕ) (all : List OasRecord) (wanted : List Pair) (past : List Item)
    → map (cell_whole bytes all) (whole_by (begun_of past) (given_in_cell (shapes_at wanted) (records_in past)) (given_in_cell placings_at (records_in past)))
    ≡ cells_called bytes all wanted (records_in past) (open_cell (records_in past))
last_whole bytes all wanted past =
    open_whole bytes all wanted (records_in past) (begun_of past)
    ∙ ap (cells_called bytes all wanted (records_in past)) (sym (called_last past))

whole_step : (bytes : List ℕ) (all : List OasRecord) (begins ends : Bool) (before last : List WholeCell) (cells more : List Cell) → ends ≡ false
    → map (cell_whole bytes all) before ≡ cells → map (cell_whole bytes all) last ≡ more
    → map (cell_whole bytes all) (if begins then before ++ last else before) ≡ cells ++ (if (if begins then true else ends) then more else [])
whole_step bytes all true ends before last cells more goes_on one other =
    map-append (cell_whole bytes all) before last ∙ ap (λ xs. xs ++ map (cell_whole bytes all) last) one ∙ ap (λ xs. cells ++ xs) other
whole_step bytes all false ends before last cells more goes_on one other =
    one ∙ sym (append-nil cells) ∙ ap (λ b. cells ++ (if b then more else [])) (sym goes_on)

whole_cells : (bytes : List ℕ) (all : List OasRecord) (wanted : List Pair) (past : List Item) → NoItemEnds past
    → map (cell_whole bytes all) (whole_of wanted past) ≡ given (cells_at bytes all wanted) (records_in past)
whole_cells bytes all wanted [] none = refl
whole_cells bytes all wanted (x ∷ past) none =
    whole_step bytes all (begins_cell x.r) (is_end x.r) (whole_of wanted past)
    (whole_by (begun_of past) (given_in_cell (shapes_at wanted) (records_in past)) (given_in_cell placings_at (records_in past)))
    (given (cells_at bytes all wanted) (records_in past)) (cells_called bytes all wanted (records_in past) (open_cell (records_in past))) none.0
    (whole_cells bytes all wanted past none.1) (last_whole bytes all wanted past)

-- ---- END

end_begins : (r : OasRecord) → is_end r ≡ true → begins_cell r ≡ false
end_begins (records.End tables padding scheme validation) h = refl
end_begins r h = absurd (cc)

end_called : (r : OasRecord) → is_end r ≡ true → cell_called r ≡ None
end_called (records.End tables padding scheme validation) h = refl
end_called r h = absurd (cc)

end_ends : (r : OasRecord) → is_end r ≡ true → ends_cell r ≡ true
end_ends (records.End tables padding scheme validation) h = refl
end_ends r h = absurd (cc)

either_none : {A : Type 0} → (b : Bool) (xs : List A) → xs ≡ [] → (if b then xs else []) ≡ []
either_none true xs none = none
either_none false xs none = refl

end_shapes : (wanted : List Pair) (past : List OasRecord) (r : OasRecord) → is_end r ≡ true → shapes_at wanted past r ≡ []
end_shapes wanted past (records.End tables padding scheme validation) h =
    either_none (is_wanted wanted (records.End tables padding scheme validation ∷ past)) [] refl
end_shapes wanted past r h = absurd (cc)

end_placings : (past : List OasRecord) (r : OasRecord) → is_end r ≡ true → placings_at past r ≡ []
end_placings past (records.End tables padding scheme validation) h = refl
end_placings past r h = absurd (cc)

end_given : {A : Type 0} (f : List OasRecord → OasRecord → List A) (past : List OasRecord) (r : OasRecord) → begins_cell r ≡ false → f past r ≡ []
    → given_in_cell f (r ∷ past) ≡ given_in_cell f past
end_given f past r goes_on none =
    ap (λ b. if b then [] else given_in_cell f past ++ f past r) goes_on ∙ ap (λ xs. given_in_cell f past ++ xs) none
    ∙ append-nil (given_in_cell f past)

-- all cells of these records, the open one too
abbrev pub all_whole : List Pair → List Item → List WholeCell
all_whole wanted past =
    whole_of wanted past ++ whole_by (begun_of past) (given_in_cell (shapes_at wanted) (records_in past)) (given_in_cell placings_at (records_in past))

end_whole : (wanted : List Pair) (past : List Item) (last : Item) → is_end last.r ≡ true → all_whole wanted (last ∷ past) ≡ all_whole wanted past
end_whole wanted past last ends =
    let records = records_in past in
    let shapes = given_in_cell (shapes_at wanted) (last.r ∷ records) in
    let placings = given_in_cell placings_at (last.r ∷ records) in
    let goes_on = end_begins last.r ends in
    ap (λ b. (if b then all_whole wanted past else whole_of wanted past) ++ whole_by
    (begun_by last (cell_called last.r) (begun_of past)) shapes placings) goes_on
    ∙ ap (λ called. whole_of wanted past ++ whole_by (begun_by last called (begun_of past)) shapes placings) (end_called last.r ends)
    ∙ ap (λ xs. whole_of wanted past ++ whole_by (begun_of past) xs placings)
    (end_given (shapes_at wanted) records last.r goes_on (end_shapes wanted records last.r ends))
    ∙ ap (λ xs. whole_of wanted past ++ whole_by (begun_of past) (given_in_cell (shapes_at wanted) records) xs)
    (end_given placings_at records last.r goes_on (end_placings records last.r ends))

pub cells_behind : (bytes : List ℕ) (all : List OasRecord) (wanted : List Pair) (past : List Item) (last : Item) (drafts : List Draft)
    → is_end last.r ≡ true → NoItemEnds past → map whole_cell drafts ≡ all_whole wanted (last ∷ past)
    → cells_by bytes all drafts ≡ given (cells_at bytes all wanted) (records_in (last ∷ past))
cells_behind bytes all wanted past last drafts ends none are =
    let open_one = whole_by (begun_of past) (given_in_cell (shapes_at wanted) (records_in past)) (given_in_cell placings_at (records_in past)) in
    let cells = given (cells_at bytes all wanted) (records_in past) in
    let more = cells_called bytes all wanted (records_in past) (open_cell (records_in past)) in
    cells_whole bytes all drafts
    ∙ ap (map (cell_whole bytes all)) (are ∙ end_whole wanted past last ends)
    ∙ map-append (cell_whole bytes all) (whole_of wanted past) open_one
    ∙ ap (λ xs. xs ++ map (cell_whole bytes all) open_one) (whole_cells bytes all wanted past none)
    ∙ ap (λ xs. cells ++ xs) (last_whole bytes all wanted past)
    ∙ ap (λ b. cells ++ (if b then more else [])) (sym (end_ends last.r ends))

-- ---- their CELL records

abbrev pub item_whole : WholeCell → Item
item_whole w = item w.begun.at (cell_record w.begun.called)

items_whole : (drafts : List Draft) → map cell_item drafts ≡ map item_whole (map whole_cell drafts)
items_whole [] = refl
items_whole (draft ∷ drafts) = ap (λ items. cell_item draft ∷ items) (items_whole drafts)

begins_called : (r : OasRecord) → begins_cell r ≡ is_some (cell_called r)
begins_called (records.Shape head (shapes.Circle radius)) = refl
begins_called r = refl

last_item : (before : List WholeCell) (w : WholeCell) → reverse (map item_whole (before ++ w ∷ [])) ≡ item_whole w ∷ reverse (map item_whole before)
last_item before w = ap reverse (map-append item_whole before (w ∷ [])) ∙ reverse-append (map item_whole before) (item_whole w ∷ [])

items_step : (x : Item) (called : Option Called) (begun : Option Begun) (before : List WholeCell) (cells : List Item)
    → (drawn : List Shape) (placed : List Placing) (shapes : List Shape) (placings : List Placing)
    → ((s : List Shape) (p : List Placing) → reverse (map item_whole (before ++ whole_by begun s p)) ≡ cells)
    → reverse (map item_whole
    ((if is_some called then before ++ whole_by begun drawn placed else before) ++ whole_by
    (begun_by x called begun) shapes placings))
    ≡ cell_before x called cells
items_step x None begun before cells drawn placed shapes placings same = same shapes placings
items_step x (Some called) begun before cells drawn placed shapes placings same =
    last_item (before ++ whole_by begun drawn placed) (record { begun = record { at = x.at; called = called }; shapes = shapes; placings = placings })
    ∙ ap (λ items. item x.at (cell_record called) ∷ items) (same drawn placed)

items_only : (wanted : List Pair) (past : List Item) (shapes : List Shape) (placings : List Placing)
    → reverse (map item_whole (whole_of wanted past ++ whole_by (begun_of past) shapes placings)) ≡ only_cells past
items_only wanted [] shapes placings = refl
items_only wanted (x ∷ past) shapes placings =
    ap (λ b. reverse (map item_whole
    ((if b then all_whole wanted past else whole_of wanted past) ++ whole_by
    (begun_by x (cell_called x.r) (begun_of past)) shapes placings)))
    (begins_called x.r)
    ∙ items_step x (cell_called x.r) (begun_of past) (whole_of wanted past) (only_cells past) (given_in_cell (shapes_at wanted) (records_in past))
    (given_in_cell placings_at (records_in past)) shapes placings (items_only wanted past)

only_behind : (wanted : List Pair) (past : List Item) (drafts : List Draft)
    → map whole_cell drafts ≡ all_whole wanted past → cell_items drafts ≡ only_cells past
only_behind wanted past drafts are =
    ap reverse (items_whole drafts ∙ ap (map item_whole) are)
    ∙ items_only wanted past (given_in_cell (shapes_at wanted) (records_in past)) (given_in_cell placings_at (records_in past))

pub twins_behind : (bytes : List ℕ) (all : List OasRecord) (wanted : List Pair) (past : List Item) (drafts : List Draft)
    → map whole_cell drafts ≡ all_whole wanted past → first_twins bytes all (cell_items drafts) ≡ first_twins bytes all past
twins_behind bytes all wanted past drafts are =
    ap (first_twins bytes all) (only_behind wanted past drafts are) ∙ sym (twins_only bytes all past)

-- ---- numbers that are known

both_none : {A : Type 0} (a b : Option A) → or_else a b ≡ None → (a ≡ None) × (b ≡ None)
both_none None b e = (refl, e)
both_none (Some a) b e = absurd (cc)

unknown_step : (bytes : List ℕ) (all : List OasRecord) (x : Item) (called target : Option Called) (cells : List Item)
    → first_unknown bytes all cells ≡ None → some_if (is_unknown bytes all (or_else called target)) x.at ≡ None
    → first_unknown bytes all (cell_before x called cells) ≡ None
unknown_step bytes all x None target cells before known = before
unknown_step bytes all x (Some called) target cells before known =
    ap (λ o. or_else o (some_if (is_unknown bytes all (or_else (cell_called (cell_record called)) (target_called (cell_record called)))) x.at)) before
    ∙ ap (λ o. some_if (is_unknown bytes all (or_else o (target_called (cell_record called)))) x.at) (called_back called)
    ∙ known

unknown_only : (bytes : List ℕ) (all : List OasRecord) (items : List Item) → first_unknown bytes all items ≡ None
    → first_unknown bytes all (only_cells items) ≡ None
unknown_only bytes all [] known = refl
unknown_only bytes all (x ∷ past) known =
    let both = both_none (first_unknown bytes all past) (some_if (is_unknown bytes all (or_else (cell_called x.r) (target_called x.r))) x.at) known in
    unknown_step bytes all x (cell_called x.r) (target_called x.r) (only_cells past) (unknown_only bytes all past both.0) both.1

pub known_behind : (bytes : List ℕ) (all : List OasRecord) (wanted : List Pair) (past : List Item) (drafts : List Draft)
    → map whole_cell drafts ≡ all_whole wanted past → first_unknown bytes all past ≡ None → first_unknown bytes all (cell_items drafts) ≡ None
known_behind bytes all wanted past drafts are known =
    ap (first_unknown bytes all) (only_behind wanted past drafts are) ∙ unknown_only bytes all past known

-- ---- names that differ

nat_eq_self : (n : ℕ) → nat_eq n n ≡ true
nat_eq_self n = grind arith

same_self : (name : List ℕ) → same_name name name ≡ true
same_self [] = refl
same_self (n ∷ name) = ap (λ b. b && same_name name name) (nat_eq_self n) ∙ same_self name

differ : (a b : List ℕ) (at : ℕ) → some_if (same_name a b) at ≡ None → a ≢ b
differ a b at apart e =
    let same : some_if (same_name a a) at ≡ None = subst (λ x. some_if (same_name a x) at ≡ None) (sym e) apart in
    let none : Some at ≡ None = ap (λ b. some_if b at) (sym (same_self a)) ∙ same in
    absurd (cc)

abbrev pub name_of_draft : List ℕ → List OasRecord → Draft → List ℕ
name_of_draft bytes all draft = name_or (name_called bytes all draft.called)

known_name : (o : Option (List ℕ)) (at : ℕ) → some_if (is_none o) at ≡ None → o ≡ Some (name_or o)
known_name None at known = absurd (cc)
known_name (Some name) at known = refl

name_there : (bytes : List ℕ) (all : List OasRecord) (draft : Draft)
    → some_if (is_unknown bytes all (or_else (cell_called (cell_record draft.called)) (target_called (cell_record draft.called)))) draft.at ≡ None
    → cell_name bytes all (cell_called (cell_record draft.called)) ≡ Some (name_of_draft bytes all draft)
name_there bytes all draft known =
    ap (cell_name bytes all) (called_back draft.called)
    ∙ known_name (name_called bytes all draft.called) draft.at
    (sym (ap (λ o. some_if (is_unknown bytes all (or_else o (target_called (cell_record draft.called)))) draft.at) (called_back draft.called)) ∙ known)

apart_from : (bytes : List ℕ) (all : List OasRecord) (name : List ℕ) (drafts : List Draft) → first_named bytes all (Some name) (map cell_item drafts) ≡ None
    → first_unknown bytes all (map cell_item drafts) ≡ None → All (λ other. name ≢ other) (map (name_of_draft bytes all) drafts)
apart_from bytes all name [] none known = All-nil (λ other. name ≢ other)
apart_from bytes all name (draft ∷ drafts) none known =
    let r = cell_record draft.called in
    let named = both_none (first_named bytes all (Some name) (map cell_item drafts))
    (some_if (have_one_name (Some name) (cell_name bytes all (cell_called r))) draft.at) none in
    let both = both_none (first_unknown bytes all (map cell_item drafts))
    (some_if (is_unknown bytes all (or_else (cell_called r) (target_called r))) draft.at) known in
    let apart = sym (ap (λ o. some_if (have_one_name (Some name) o) draft.at) (name_there bytes all draft both.1)) ∙ named.1 in
    All-cons (λ other. name ≢ other) (name_of_draft bytes all draft) (map (name_of_draft bytes all) drafts)
    (differ name (name_of_draft bytes all draft) draft.at apart) (apart_from bytes all name drafts named.0 both.0)

no_second : (at : ℕ) (o : Option ℕ) → with_second at o ≡ None → o ≡ None
no_second at None e = refl
no_second at (Some first) e = absurd (cc)

distinct_back : (bytes : List ℕ) (all : List OasRecord) (drafts : List Draft) → first_twins bytes all (map cell_item drafts) ≡ None
    → first_unknown bytes all (map cell_item drafts) ≡ None → AreDistinct (map (name_of_draft bytes all) drafts)
distinct_back bytes all [] none known = tt
distinct_back bytes all (draft ∷ drafts) none known =
    let r = cell_record draft.called in
    let items = map cell_item drafts in
    let twins = both_none (first_twins bytes all items) (with_second draft.at (first_named bytes all (cell_name bytes all (cell_called r)) items)) none in
    let both = both_none (first_unknown bytes all items) (some_if (is_unknown bytes all (or_else (cell_called r) (target_called r))) draft.at) known in
    let first = no_second draft.at (first_named bytes all (cell_name bytes all (cell_called r)) items) twins.1 in (
      apart_from bytes all (name_of_draft bytes all draft) drafts
          (sym (ap (λ o. first_named bytes all o items) (name_there bytes all draft both.1)) ∙ first) both.0,
      distinct_back bytes all drafts twins.0 both.0,
    )

-- ---- the other way round

map_back : {X Y : Type 0} (f : X → Y) (xs : List X) → map f (reverse xs) ≡ reverse (map f xs)
map_back f [] = refl
map_back f (x ∷ xs) =
    ap (map f) (reverse-cons x xs) ∙ map-append f (reverse xs) (x ∷ []) ∙ ap (λ ys. ys ++ f x ∷ []) (map_back f xs) ∙ sym (reverse-cons (f x) (map f xs))

all_back : {X : Type 0} (P : X → Type 0) (xs : List X) → All P xs → All P (reverse xs)
all_back P [] h = All-nil P
all_back P (x ∷ xs) h =
    All-same P (reverse (x ∷ xs)) (reverse xs ++ x ∷ []) (reverse-cons x xs)
    (All-push P (reverse xs) x (all_back P xs (All-tail P x xs h)) (All-head P x xs h))

distinct_last : (names : List (List ℕ)) (name : List ℕ) → AreDistinct names → All (λ other. name ≢ other) names → AreDistinct (names ++ name ∷ [])
distinct_last [] name distinct apart = (All-nil (λ other. name ≢ other), tt)
distinct_last (first ∷ names) name distinct apart = (
  All-push (λ other. first ≢ other) names name distinct.0 (λ e. All-head (λ other. name ≢ other) first names apart (sym e)),
  distinct_last names name distinct.1 (All-tail (λ other. name ≢ other) first names apart),
)

distinct_reverse : (names : List (List ℕ)) → AreDistinct names → AreDistinct (reverse names)
distinct_reverse [] distinct = tt
distinct_reverse (name ∷ names) distinct =
    subst AreDistinct (sym (reverse-cons name names))
    (distinct_last (reverse names) name (distinct_reverse names distinct.1) (all_back (λ other. name ≢ other) names distinct.0))

names_are : (bytes : List ℕ) (all : List OasRecord) (drafts : List Draft)
    → map (λ cell. cell.name) (cells_by bytes all drafts) ≡ map (name_of_draft bytes all) drafts
names_are bytes all [] = refl
names_are bytes all (draft ∷ drafts) = ap (λ names. name_of_draft bytes all draft ∷ names) (names_are bytes all drafts)

pub distinct_by : (bytes : List ℕ) (all : List OasRecord) (drafts : List Draft) → first_twins bytes all (cell_items drafts) ≡ None
    → first_unknown bytes all (cell_items drafts) ≡ None → AreDistinct (map (λ cell. cell.name) (cells_by bytes all drafts))
distinct_by bytes all drafts none known =
    let back = map_back cell_item drafts in
    let distinct = distinct_back bytes all (reverse drafts) (ap (first_twins bytes all) back ∙ none) (ap (first_unknown bytes all) back ∙ known) in
    subst AreDistinct
    (ap reverse (map_back (name_of_draft bytes all) drafts) ∙ reverse-reverse (map (name_of_draft bytes all) drafts) ∙ sym (names_are bytes all drafts))
    (distinct_reverse (map (name_of_draft bytes all) (reverse drafts)) distinct)

-- ---- what is handed out

-- the facts of an answer that isn't an error, together
pub ok_with : {T E : Type 0} (r : Result T E) (P : T → Type 0) (Q : Type 0) (R : T → Type 0) → ((x : T) → P x → Q → R x) → IfOk r P → OnOk r Q → IfOk r R
ok_with (Ok x) P Q R f p q = f x p q
ok_with (Err e) P Q R f p q = tt

pub cells_are_behind : (bytes : List ℕ) (wanted : List Pair) (past : List Item) (last : Item) (drafts : List Draft) (cells : List Cell)
    → is_end last.r ≡ true → NoItemEnds past → map whole_cell drafts ≡ all_whole wanted (last ∷ past)
    → first_unknown bytes (records_in (last ∷ past)) (last ∷ past) ≡ None
    → cells ≡ cells_by bytes (records_in (last ∷ past)) drafts → first_twins bytes (records_in (last ∷ past)) (cell_items drafts) ≡ None
    → AreCellsBehind bytes wanted (last ∷ past) cells
cells_are_behind bytes wanted past last drafts cells ends none are known cells_are distinct = record {
  known = known;
  distinct = sym (twins_behind bytes (records_in (last ∷ past)) wanted (last ∷ past) drafts are) ∙ distinct;
  cells_are = cells_are ∙ cells_behind bytes (records_in (last ∷ past)) wanted past last drafts ends none are;
}

pub distinct_behind : (bytes : List ℕ) (all : List OasRecord) (wanted : List Pair) (past : List Item) (drafts : List Draft) (cells : List Cell)
    → map whole_cell drafts ≡ all_whole wanted past → first_unknown bytes all past ≡ None
    → cells ≡ cells_by bytes all drafts → first_twins bytes all (cell_items drafts) ≡ None → AreDistinct (map (λ cell. cell.name) cells)
distinct_behind bytes all wanted past drafts cells are known cells_are distinct =
    subst (λ xs. AreDistinct (map (λ (cell : Cell). cell.name) xs)) (sym cells_are)
    (distinct_by bytes all drafts distinct (known_behind bytes all wanted past drafts are known))

pub fault_behind : (bytes : List ℕ) (wanted : List Pair) (past : List Item) (drafts : List Draft) (refusal : Refusal OasBad)
    → map whole_cell drafts ≡ all_whole wanted past → first_unknown bytes (records_in past) past ≡ None
    → IsForFault (AreTwins bytes (records_in past) (cell_items drafts)) refusal → IsForFault (IsFaultOfNames bytes past) refusal
fault_behind bytes wanted past drafts (Fault bad) are known (first, second, twins, is) =
    inr (first, second, known, sym (twins_behind bytes (records_in past) wanted past drafts are) ∙ twins, is)
fault_behind bytes wanted past drafts NoMemory are known h = tt
