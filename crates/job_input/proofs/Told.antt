-- What is told of a layout's tree.
use Rattle.std.proofs.Common.{◌≡◌, inl, inr, ℕ, Option, Some, None, refl}
use Rattle.layout_model.specs.declared.cells.Layout.{Layout}
use Rattle.cell_tree.specs.Cells.{cell_number}
use Rattle.cell_tree.specs.Faults.{IsFirstTreeFault}
use Rattle.cell_tree.specs.declared.faults.TreeBad.{TreeBad}
use Rattle.cell_tree.specs.declared.faults.TreeBad.TheVariants.{NoTop}
use Rattle.deck_text.specs.declared.deck.Deck.{Deck}
use Rattle.job_input.specs.Refused.{IsTreeFaultFor}

fault_by : (d : Deck) (l : Layout) (bad : TreeBad) (n : Option ℕ) → cell_number l.cells d.top ≡ n
    → (cell_number l.cells d.top ≡ None → bad ≡ NoTop)
    → ((m : ℕ) → cell_number l.cells d.top ≡ Some m → IsFirstTreeFault l.cells m bad) → IsTreeFaultFor d l bad
fault_by d l bad None e none fault = let same = none e in inl (same, e)
fault_by d l bad (Some m) e none fault = inr (m, e, fault m e)

-- the fault of a layout whose cells are no tree
pub tree_fault : (d : Deck) (l : Layout) (bad : TreeBad) → (cell_number l.cells d.top ≡ None → bad ≡ NoTop)
    → ((m : ℕ) → cell_number l.cells d.top ≡ Some m → IsFirstTreeFault l.cells m bad) → IsTreeFaultFor d l bad
tree_fault d l bad none fault = fault_by d l bad (cell_number l.cells d.top) refl none fault
