use Rattle.std.proofs.Common.{◌+◌, refl, drop}
use Rattle.layout_model.specs.ShapeLists.{shape_in}
use Rattle.flat_walk.specs.EntryLists.{entries_in}
use Rattle.flat_walk.specs.Hands.{shapes_left}
use Rattle.flat_walk.specs.Kept.{all_lists}
use Rattle.flat_walk.proofs.RestLemmas.{skip_same}
use Rattle.flat_walk.proofs.BoxLemmas.{places_passed, steps_later}
use Rattle.flat_walk.proofs.CursorLemmas.{first_on_grid}
use Rattle.flat_walk.proofs.owned.Cursor.pass_places.Goals as goal

pub returns-in_default-clause-skips : goal.returns-in_default-clause-skips
returns-in_default-clause-skips c = λ pair. skip_same c.args.window _ _ refl

pub returns-clause-skips : goal.returns-clause-skips
returns-clause-skips c = λ pair.
    let s = c.args.self.now in
    let run = c.in-Some.ensures in
    let on = c.onward-self.ensures in
    places_passed c.args.window s.orient s.at c.in-Some.rows.low c.in-Some.rows.high run.box pair (shapes_left s)
    (drop (s.number + 1) s.shapes.now) (shape_in c.args.shape) (all_lists (entries_in s.lists)) run.later run.pieces s.place c.onward-self.result
    c.requires.first.is run.lists run.between run.around on.later on.inside on.none

pub returns-clause-steps : goal.returns-clause-steps
returns-clause-steps c =
    let s = c.args.self.now in
    steps_later (shapes_left s) (drop (s.number + 1) s.shapes.now) (shape_in c.args.shape) s.place c.onward-self.result
    c.requires.first.is c.onward-self.ensures.later

pub onward-self-requires-clause-grid : goal.onward-self-requires-clause-grid
onward-self-requires-clause-grid c =
    let s = c.args.self.now in
    first_on_grid s.number s.shapes.now (drop (s.number + 1) s.shapes.now) (shape_in c.args.shape) c.requires.first.is c.requires.cursor.grid
