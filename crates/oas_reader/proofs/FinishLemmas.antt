-- Cells of one name, over the CELL records alone.
use Rattle.std.proofs.Common.{◌≡◌, ℕ, false, Option, Some, None, List, [], ◌∷◌, ◌++◌, ◌+◌, length, map, reverse, take}
use Rattle.std.proofs.Common.{drop, All, refl, sym, ap, subst, ◌∙◌, arith}
use Rattle.std.proofs.lemmas.List.{reverse-append, map-append, take-append-drop}
use Rattle.std.proofs.lemmas.List.Elements.{All-nil, All-cons, All-head, All-tail, All-push}
use Rattle.geo_stream.specs.Refusals.{IsForFault}
use Rattle.geo_stream.specs.declared.refusal.Refusal.{Refusal}
use Rattle.geo_stream.specs.declared.refusal.Refusal.TheVariants.{Fault, NoMemory}
use Rattle.oas_record.specs.declared.fields.Called.{Called}
use Rattle.oas_record.specs.declared.records.OasRecord.{OasRecord}
use Rattle.oas_fields.specs.Values.{or_else}
use Rattle.oas_reader.specs.declared.cells.Draft.{Draft}
use Rattle.oas_reader.specs.Items.{Item}
use Rattle.oas_reader.specs.Names.{some_if, have_one_name, cell_called, cell_name, first_named, with_second, first_twins, name_called}
use Rattle.oas_reader.specs.Naming.{cell_record, IsTwin}
use Rattle.layout_model.specs.declared.cells.Cell.{Cell}
use Rattle.layout_model.specs.declared.cells.Placement.{Placement}
use Rattle.oas_reader.specs.declared.placing.Placing.{Placing}
use Rattle.oas_reader.specs.Meaning.{name_or, placement_by, named}
use Rattle.oas_reader.specs.Readers.{placing_of, placings_of, IsPlacingOnGrid}
use Rattle.oas_reader.specs.declared.refusing.OasBad.{OasBad}
use Rattle.layout_model.specs.Layouts.{IsPlacementOnGrid}
use Rattle.oas_reader.specs.Finished.{cell_item, cell_items, cell_by, cells_by, AreTwins}
use Rattle.oas_reader.specs.Reading.{item}

pub items_more : (drafts : List Draft) (draft : Draft) → cell_items (drafts ++ draft ∷ []) ≡ cell_item draft ∷ cell_items drafts
items_more drafts draft =
    ap reverse (map-append cell_item drafts (draft ∷ [])) ∙ reverse-append (map cell_item drafts) (cell_item draft ∷ [])

pub items_append : (drafts more : List Draft) → cell_items (drafts ++ more) ≡ cell_items more ++ cell_items drafts
items_append drafts more = ap reverse (map-append cell_item drafts more) ∙ reverse-append (map cell_item drafts) (map cell_item more)

pub called_back : (called : Called) → cell_called (cell_record called) ≡ Some called
called_back called = refl

-- the next CELL record has a name of its own
pub distinct_more : (bytes : List ℕ) (all : List OasRecord) (past : List Item) (at : ℕ) (r : OasRecord) (name : List ℕ)
    → first_twins bytes all past ≡ None → cell_name bytes all (cell_called r) ≡ Some name → first_named bytes all (Some name) past ≡ None
    → first_twins bytes all (item at r ∷ past) ≡ None
distinct_more bytes all past at r name before called none =
    ap (λ o. or_else o (with_second at (first_named bytes all (cell_name bytes all (cell_called r)) past))) before
    ∙ ap (λ o. with_second at (first_named bytes all o past)) called
    ∙ ap (with_second at) none

-- or it has the name of an earlier one
pub twins_more : (bytes : List ℕ) (all : List OasRecord) (past : List Item) (at : ℕ) (r : OasRecord) (name : List ℕ) (first : ℕ)
    → first_twins bytes all past ≡ None → cell_name bytes all (cell_called r) ≡ Some name → first_named bytes all (Some name) past ≡ Some first
    → first_twins bytes all (item at r ∷ past) ≡ Some (first, at)
twins_more bytes all past at r name first before called twin =
    ap (λ o. or_else o (with_second at (first_named bytes all (cell_name bytes all (cell_called r)) past))) before
    ∙ ap (λ o. with_second at (first_named bytes all o past)) called
    ∙ ap (with_second at) twin

-- the first two of one name stay the first ones
pub twins_kept : (bytes : List ℕ) (all : List OasRecord) (more past : List Item) (twins : ℕ × ℕ)
    → first_twins bytes all past ≡ Some twins → first_twins bytes all (more ++ past) ≡ Some twins
twins_kept bytes all [] past twins e = e
twins_kept bytes all (x ∷ more) past twins e =
    ap (λ o. or_else o (with_second x.at (first_named bytes all (cell_name bytes all (cell_called x.r)) (more ++ past))))
    (twins_kept bytes all more past twins e)

-- a cell that has the name of an earlier one, and those after it
pub twin_found : (bytes : List ℕ) (all : List OasRecord) (drafts : List Draft) (i : ℕ) (draft : Draft) (name : List ℕ)
    (refusal : Refusal OasBad)
    → first_twins bytes all (cell_items (take i drafts)) ≡ None → name_called bytes all draft.called ≡ Some name
    → take (i + 1) drafts ≡ take i drafts ++ draft ∷ [] → IsForFault (IsTwin bytes all (cell_items (take i drafts)) name draft.at) refusal
    → IsForFault (AreTwins bytes all (cell_items drafts)) refusal
twin_found bytes all drafts i draft name NoMemory before called taken h = tt
twin_found bytes all drafts i draft name (Fault bad) before called taken (first, twin, is) =
    let name_is = ap (cell_name bytes all) (called_back draft.called) ∙ called in
    let here : first_twins bytes all (cell_items (take (i + 1) drafts)) ≡ Some (first, draft.at) =
    ap (λ ds. first_twins bytes all (cell_items ds)) taken
    ∙ ap (first_twins bytes all) (items_more (take i drafts) draft)
    ∙ twins_more bytes all (cell_items (take i drafts)) draft.at (cell_record draft.called) name first before name_is twin in
    let whole : first_twins bytes all (cell_items (take (i + 1) drafts ++ drop (i + 1) drafts)) ≡ Some (first, draft.at) =
    ap (first_twins bytes all) (items_append (take (i + 1) drafts) (drop (i + 1) drafts))
    ∙ twins_kept bytes all (cell_items (drop (i + 1) drafts)) (cell_items (take (i + 1) drafts)) (first, draft.at) here in
    (first, draft.at, subst (λ ds. first_twins bytes all (cell_items ds) ≡ Some (first, draft.at)) (take-append-drop (i + 1) drafts) whole, is)

-- ---- records that begin no cell

abbrev pub cell_before : Item → Option Called → List Item → List Item
cell_before x None past = past
cell_before x (Some called) past = item x.at (cell_record called) ∷ past

-- the CELL records alone
abbrev pub only_cells : List Item → List Item
only_cells [] = []
only_cells (x ∷ past) = cell_before x (cell_called x.r) (only_cells past)

none_else : {A : Type 0} → (o : Option A) → or_else o None ≡ o
none_else None = refl
none_else (Some a) = refl

no_name : (name : Option (List ℕ)) → have_one_name name None ≡ false
no_name None = refl
no_name (Some a) = refl

named_step : (bytes : List ℕ) (all : List OasRecord) (name : Option (List ℕ)) (x : Item) (called : Option Called) (past : List Item)
    → or_else (first_named bytes all name past) (some_if (have_one_name name (cell_name bytes all called)) x.at)
    ≡ first_named bytes all name (cell_before x called past)
named_step bytes all name x None past =
    ap (λ b. or_else (first_named bytes all name past) (some_if b x.at)) (no_name name) ∙ none_else (first_named bytes all name past)
named_step bytes all name x (Some called) past =
    sym (ap (λ c. or_else (first_named bytes all name past) (some_if (have_one_name name (cell_name bytes all c)) x.at)) (called_back called))

named_only : (bytes : List ℕ) (all : List OasRecord) (name : Option (List ℕ)) (items : List Item)
    → first_named bytes all name items ≡ first_named bytes all name (only_cells items)
named_only bytes all name [] = refl
named_only bytes all name (x ∷ past) =
    ap (λ o. or_else o (some_if (have_one_name name (cell_name bytes all (cell_called x.r))) x.at)) (named_only bytes all name past)
    ∙ named_step bytes all name x (cell_called x.r) (only_cells past)

never_named : (bytes : List ℕ) (all : List OasRecord) (items : List Item) → first_named bytes all None items ≡ None
never_named bytes all [] = refl
never_named bytes all (x ∷ past) =
    ap (λ o. or_else o (some_if (have_one_name None (cell_name bytes all (cell_called x.r))) x.at)) (never_named bytes all past)

twins_step : (bytes : List ℕ) (all : List OasRecord) (x : Item) (called : Option Called) (past : List Item)
    → or_else (first_twins bytes all past) (with_second x.at (first_named bytes all (cell_name bytes all called) past))
    ≡ first_twins bytes all (cell_before x called past)
twins_step bytes all x None past =
    ap (λ o. or_else (first_twins bytes all past) (with_second x.at o)) (never_named bytes all past) ∙ none_else (first_twins bytes all past)
twins_step bytes all x (Some called) past =
    sym (ap (λ c. or_else (first_twins bytes all past) (with_second x.at (first_named bytes all (cell_name bytes all c) past))) (called_back called))

-- cells of one name are found among the CELL records
pub twins_only : (bytes : List ℕ) (all : List OasRecord) (items : List Item)
    → first_twins bytes all items ≡ first_twins bytes all (only_cells items)
twins_only bytes all [] = refl
twins_only bytes all (x ∷ past) =
    ap (λ o. or_else o (with_second x.at (first_named bytes all (cell_name bytes all (cell_called x.r)) past))) (twins_only bytes all past)
    ∙ ap (λ o. or_else (first_twins bytes all (only_cells past)) (with_second x.at o)) (named_only bytes all (cell_name bytes all (cell_called x.r)) past)
    ∙ twins_step bytes all x (cell_called x.r) (only_cells past)

-- ---- cells by name

pub named_more : (bytes : List ℕ) (all : List OasRecord) (placings : List Placing) (p : Placing) (target : List ℕ) (before after : List Placement)
    → before ≡ named bytes all (placings_of placings) → name_called bytes all p.target ≡ Some target
    → after ≡ before ++ record { target = target; orient = p.orient; at = p.at; offsets = p.offsets } ∷ []
    → after ≡ named bytes all (placings_of (placings ++ p ∷ []))
named_more bytes all placings p target before after done found pushed =
    pushed
    ∙ ap (λ xs. xs ++ record { target = target; orient = p.orient; at = p.at; offsets = p.offsets } ∷ []) done
    ∙ ap (λ o. named bytes all (placings_of placings) ++ record { target = name_or o; orient = p.orient; at = p.at; offsets = p.offsets } ∷ []) (sym found)
    ∙ sym (ap (named bytes all) (map-append placing_of placings (p ∷ [])) ∙ map-append (placement_by bytes all) (placings_of placings) (placing_of p ∷ []))

pub cells_more : (bytes : List ℕ) (all : List OasRecord) (drafts : List Draft) (draft : Draft) (cell : Cell) (before after : List Cell)
    → before ≡ cells_by bytes all drafts → cell ≡ cell_by bytes all draft → after ≡ before ++ cell ∷ []
    → after ≡ cells_by bytes all (drafts ++ draft ∷ [])
cells_more bytes all drafts draft cell before after done is pushed =
    pushed ∙ ap (λ xs. xs ++ cell ∷ []) done ∙ ap (λ x. cells_by bytes all drafts ++ x ∷ []) is
    ∙ sym (map-append (cell_by bytes all) drafts (draft ∷ []))

pub nothing_left : {X : Type 0} → (xs : List X) → length xs ≡ 0 → xs ≡ []
nothing_left [] none = refl
nothing_left (x ∷ xs) none = absurd (omega arith)

-- ---- the grid

front : {X : Type 0} (P : X → Type 0) (xs ys : List X) → All P (xs ++ ys) → All P xs
front P [] ys h = All-nil P
front P (x ∷ xs) ys h = All-cons P x xs (All-head P x (xs ++ ys) h) (front P xs ys (All-tail P x (xs ++ ys) h))

end : {X : Type 0} (P : X → Type 0) (xs : List X) (y : X) → All P (xs ++ y ∷ []) → P y
end P [] y h = All-head P y [] h
end P (x ∷ xs) y h = end P xs y (All-tail P x (xs ++ y ∷ []) h)

-- one more element and what is made of it
pub grid_more : {X Y : Type 0} (P : X → Type 0) (Q : Y → Type 0) (xs : List X) (x : X) (y : Y) (before after : List Y)
    → (All P xs → All Q before) → (P x → Q y) → after ≡ before ++ y ∷ [] → All P (xs ++ x ∷ []) → All Q after
grid_more P Q xs x y before after keeps makes pushed h =
    subst (All Q) (sym pushed) (All-push Q before y (keeps (front P xs (x ∷ []) h)) (makes (end P xs x h)))

pub placed_on_grid : (p : Placing) (target : List ℕ) → IsPlacingOnGrid p
    → IsPlacementOnGrid (record { target = target; orient = p.orient; at = p.at; offsets = p.offsets })
placed_on_grid p target is = record { orient = is.orient; at = is.at; offsets = is.offsets }
