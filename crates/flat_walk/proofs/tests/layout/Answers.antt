use Rattle.std.proofs.Common.{◌∙◌}
use Rattle.flat_walk.proofs.TestLemmas.{three_cells}
use Rattle.flat_walk.proofs.tests.layout.Goals as goal

pub returns-clause-grid : goal.returns-clause-grid
returns-clause-grid g c =
    let two = rw c.only-first.ensures at c.more-two.ensures in
    let three = rw two at c.more-cells.ensures in
    three_cells three c.cell-a.ensures.grid c.cell-b.ensures.grid c.cell-c.ensures.grid
    (c.cell-a.ensures.name ∙ c.name-name_a.ensures) (c.cell-b.ensures.name ∙ c.name-name_b.ensures) (c.cell-c.ensures.name ∙ c.name-name_c.ensures)
