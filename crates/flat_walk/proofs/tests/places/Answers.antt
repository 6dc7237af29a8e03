use Rattle.flat_walk.proofs.TestLemmas.{grid_moves, right_up_grid}
use Rattle.flat_walk.proofs.tests.places.Goals as goal

pub grid-requires : goal.grid-requires
grid-requires g c = right_up_grid c.args.columns c.args.rows c.requires.some_columns c.requires.few_columns c.requires.some_rows c.requires.few_rows

pub returns : goal.returns
returns g c =
    let places = rw c.expect.ensures at c.grid.ensures.ok in
    rw places (grid_moves c.args.columns c.args.rows c.requires.some_columns c.requires.few_columns c.requires.some_rows c.requires.few_rows)
