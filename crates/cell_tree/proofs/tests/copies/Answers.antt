use Rattle.cell_tree.proofs.TestLemmas.{equal_offsets}
use Rattle.cell_tree.proofs.tests.copies.Goals as goal

pub returns : goal.returns
returns g c =
    let places = rw c.expect.ensures at c.grid-offsets.ensures.ok in
    equal_offsets c.args.count _ c.requires.some places
