use Rattle.std.proofs.Common.{◌≡◌, None, sym, ap, ◌∙◌, arith}
use Rattle.std.proofs.lemmas.Grind.{common_steps}
use Rattle.cell_tree.specs.Cells.{cell_number}
use Rattle.cell_tree.proofs.TestLemmas.{one_more_cell}
use Rattle.cell_tree.proofs.tests.with_cell.Goals as goal

pub returns : goal.returns
returns g c =
    let none : c.number_of-number.result ≡ None = grind (arith, common_steps) in
    let new : cell_number c.args.layout.cells c.args.cell.name ≡ None =
    ap (λ cells. cell_number cells c.args.cell.name) (sym c.as_slice.ensures) ∙ sym c.number_of-number.ensures ∙ none in
    one_more_cell c.args.layout c.args.cell _ _ c.requires.layout c.requires.cell new c.more-cells.ensures
