-- The cells after one more CELL record.
use Rattle.std.proofs.Common.{◌≡◌, ℕ, List, [], ◌++◌, Option, Some, None, map, All, refl, sym, ap, subst, ◌∙◌}
use Rattle.std.proofs.lemmas.List.{map-append}
use Rattle.std.proofs.lemmas.List.Elements.{All-nil, All-cons, All-append}
use Rattle.std.specs.declared.vec.Vec.{Vec}
use Rattle.std.specs.declared.alloc.Global.{Global}
use Rattle.layout_model.specs.Layouts.{IsShapeOnGrid}
use Rattle.layout_model.specs.declared.pair.Pair.{Pair}
use Rattle.layout_model.specs.declared.shapes.Shape.{Shape}
use Rattle.oas_record.specs.declared.fields.Called.{Called}
use Rattle.oas_reader.specs.Cells.{begun_at, draft_of, closed}
use Rattle.oas_reader.specs.Items.{Item, records_in}
use Rattle.oas_reader.specs.Meaning.{given_in_cell, shapes_at, placings_at}
use Rattle.oas_reader.specs.Naming.{IsCalledWithin}
use Rattle.oas_reader.specs.Readers.{placings_of, IsPlacingOnGrid, begun_of, whole_by, whole_of, whole_cell}
use Rattle.oas_reader.specs.Readers.{ArePlacingsWithin, IsDraftWithin, IsBegunWithin, IsDraftOnGrid, AreDraftsWithin}
use Rattle.oas_reader.specs.Readers.{AreDraftsOf}
use Rattle.oas_reader.specs.declared.cells.Begun.{Begun}
use Rattle.oas_reader.specs.declared.cells.Draft.{Draft}
use Rattle.oas_reader.specs.declared.cells.Drafts.{Drafts}
use Rattle.oas_reader.specs.declared.placing.Placing.{Placing}

-- ---- the open cell, ended

closed_cells : (begun : Option Begun) (shapes : List Shape) (placings : Vec Placing Global)
    → map whole_cell (closed begun shapes placings) ≡ whole_by begun shapes (placings_of placings.items)
closed_cells None shapes placings = refl
closed_cells (Some begun) shapes placings = refl

closed_within : (bytes : List ℕ) (begun : Option Begun) (shapes : List Shape) (placings : Vec Placing Global) → IsBegunWithin bytes begun
    → ArePlacingsWithin bytes placings.items → All (IsDraftWithin bytes) (closed begun shapes placings)
closed_within bytes None shapes placings called places = All-nil (IsDraftWithin bytes)
closed_within bytes (Some begun) shapes placings called places =
    All-cons (IsDraftWithin bytes) (draft_of begun shapes placings) [] (record { called = called; placings = places }) (All-nil (IsDraftWithin bytes))

closed_grid : (begun : Option Begun) (shapes : List Shape) (placings : Vec Placing Global) → All IsShapeOnGrid shapes
    → All IsPlacingOnGrid placings.items → All IsDraftOnGrid (closed begun shapes placings)
closed_grid None shapes placings drawn placed = All-nil IsDraftOnGrid
closed_grid (Some begun) shapes placings drawn placed =
    All-cons IsDraftOnGrid (draft_of begun shapes placings) [] (record { shapes = drawn; placings = placed }) (All-nil IsDraftOnGrid)

-- ---- all cells, the open one too

abbrev pub all_of : Drafts → List Draft
all_of drafts = drafts.whole.items ++ closed drafts.begun drafts.shapes drafts.placings

pub all_within : (bytes : List ℕ) (drafts : Drafts) → AreDraftsWithin bytes drafts → All (IsDraftWithin bytes) (all_of drafts)
all_within bytes drafts are =
    All-append (IsDraftWithin bytes) drafts.whole.items (closed drafts.begun drafts.shapes drafts.placings) are.whole
    (closed_within bytes drafts.begun drafts.shapes drafts.placings are.begun are.placings)

pub all_grid : (bytes : List ℕ) (drafts : Drafts) → AreDraftsWithin bytes drafts → All IsDraftOnGrid (all_of drafts)
all_grid bytes drafts are =
    All-append IsDraftOnGrid drafts.whole.items (closed drafts.begun drafts.shapes drafts.placings) are.whole_grid
    (closed_grid drafts.begun drafts.shapes drafts.placings are.shapes_grid are.placings_grid)

pub all_cells : (wanted : List Pair) (past : List Item) (drafts : Drafts) → AreDraftsOf wanted past drafts
    → map whole_cell (all_of drafts)
    ≡ whole_of wanted past ++ whole_by (begun_of past) (given_in_cell (shapes_at wanted) (records_in past)) (given_in_cell placings_at (records_in past))
all_cells wanted past drafts are =
    map-append whole_cell drafts.whole.items (closed drafts.begun drafts.shapes drafts.placings)
    ∙ ap (λ xs. xs ++ map whole_cell (closed drafts.begun drafts.shapes drafts.placings)) are.whole
    ∙ ap (λ xs. whole_of wanted past ++ xs)
    (closed_cells drafts.begun drafts.shapes drafts.placings
    ∙ ap (λ b. whole_by b drafts.shapes (placings_of drafts.placings.items)) are.begun
    ∙ ap (λ s. whole_by (begun_of past) s (placings_of drafts.placings.items)) are.shapes
    ∙ ap (λ p. whole_by (begun_of past) (given_in_cell (shapes_at wanted) (records_in past)) p) are.placings)

-- ---- a cell that begins

-- what a CELL record makes of the cells
pub record Begins (at : ℕ) (called : Called) (old new : Drafts) : Type 0 where
  pub begun : new.begun ≡ begun_at at called
  pub shapes : new.shapes ≡ []
  pub placings : new.placings.items ≡ []
  pub whole : new.whole.items ≡ all_of old

pub begun_within : (bytes : List ℕ) (at : ℕ) (called : Called) (old new : Drafts) → Begins at called old new → IsCalledWithin bytes called
    → AreDraftsWithin bytes old → AreDraftsWithin bytes new
begun_within bytes at called old new begins within are = record {
  begun = subst (IsBegunWithin bytes) (sym begins.begun) within;
  placings = subst (ArePlacingsWithin bytes) (sym begins.placings) (All-nil (λ placing. IsCalledWithin bytes placing.target));
  whole = subst (All (IsDraftWithin bytes)) (sym begins.whole) (all_within bytes old are);
  shapes_grid = subst (All IsShapeOnGrid) (sym begins.shapes) (All-nil IsShapeOnGrid);
  placings_grid = subst (All IsPlacingOnGrid) (sym begins.placings) (All-nil IsPlacingOnGrid);
  whole_grid = subst (All IsDraftOnGrid) (sym begins.whole) (all_grid bytes old are);
}
