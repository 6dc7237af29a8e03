use Rattle.std.proofs.Common.{◌≡◌, ℕ, zero, suc, List, [], ◌∷◌, Some, map, slice_get, slice_set, refl, sym, ap, subst, ◌∙◌}
use Rattle.std.proofs.lemmas.Option.{same_Some}
use Rattle.layout_model.specs.Layouts.{IsLayoutOnGrid}
use Rattle.layout_model.specs.declared.cells.Cell.{Cell}
use Rattle.layout_model.specs.declared.cells.Layout.{Layout}
use Rattle.layout_model.specs.declared.shapes.Shape.{Shape}
use Rattle.cell_tree.specs.Cells.{all_targets}
use Rattle.cell_tree.proofs.linked.Linked.find_copies.Goals as goal

set_same : {A : Type 0} (xs : List A) (k : ℕ) (x : A) → slice_get xs k ≡ Some x → slice_set xs k x ≡ xs
set_same [] k x at = refl
set_same (y ∷ xs) zero x at = ap (λ z. z ∷ xs) (sym (same_Some y x at))
set_same (y ∷ xs) (suc k) x at = ap (λ l. y ∷ l) (set_same xs k x at)

-- a layout of which a cell got the shapes that it has
as_it_was : (layout : Layout) (k : ℕ) (cell : Cell) (shapes : List Shape) → slice_get layout.cells k ≡ Some cell → shapes ≡ cell.shapes
    → record layout { cells = slice_set layout.cells k (record cell { shapes = shapes }) } ≡ layout
as_it_was layout k cell shapes at same =
    ap (λ l. record layout { cells = slice_set layout.cells k (record cell { shapes = l }) }) same
    ∙ ap (λ l. record layout { cells = l }) (set_same layout.cells k cell at)

pub invariant_of-self : goal.invariant_of-self
invariant_of-self c =
    subst (λ l. IsLayoutOnGrid l × (map (λ row. row.items) c.self.inside.targets.items ≡ all_targets l.cells))
    (sym (as_it_was c.self.inside.layout c.args.cell c.item_mut.result.now c.find_copies.new.self c.item_mut.ensures.value c.find_copies.ensures))
    c.self.invariant

pub returns : goal.returns
returns c =
    as_it_was c.self.inside.layout c.args.cell c.item_mut.result.now c.find_copies.new.self c.item_mut.ensures.value c.find_copies.ensures
    ∙ c.self.view_is
