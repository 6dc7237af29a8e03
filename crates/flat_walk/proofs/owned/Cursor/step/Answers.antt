use Rattle.std.proofs.Common.{◌∙◌, ◌+◌, ◌++◌, ap, sym, drop}
use Rattle.layout_model.specs.ShapeLists.{shape_in}
use Rattle.flat_walk.specs.EntryLists.{entries_in}
use Rattle.flat_walk.specs.Hands.{shapes_left, cursor_list}
use Rattle.flat_walk.specs.Stores.{entry_in}
use Rattle.flat_walk.proofs.BoxLemmas.{places_past}
use Rattle.flat_walk.proofs.CursorLemmas.{entry_over, first_on_grid, next_list, next_steps}
use Rattle.flat_walk.proofs.owned.Cursor.step.Goals as goal

pub here-requires-clause-grid : goal.here-requires-clause-grid
here-requires-clause-grid c =
    let s = c.args.self.now in
    first_on_grid s.number s.shapes.now (drop (s.number + 1) s.shapes.now) (shape_in c.args.shape) c.requires.first.is c.requires.cursor.grid

pub returns-in_default-here-clause-list : goal.returns-in_default-here-clause-list
returns-in_default-here-clause-list c = λ pair on.
    let s = c.args.self.now in
    entry_over s.orient s.at pair (shapes_left s) (drop (s.number + 1) s.shapes.now) (shape_in c.args.shape) (entries_in s.lists)
    (drop 1 (entries_in s.lists)) (entry_in c.in-Some.entry) s.place c.requires.first.is c.in-Some.ensures.first
    (places_past pair (shape_in c.args.shape) (entry_in c.in-Some.entry).pieces s.place c.in_default-here.ensures.there)
    ∙ (sym (next_list pair s c.skip-in_default-here.new.self c.skip-in_default-here.ensures.next)
    ∙ ap (λ l. l ++ cursor_list pair c.skip-in_default-here.new.self) (sym c.empty-in_default-here.ensures.list))

pub returns-in_default-here-clause-steps : goal.returns-in_default-here-clause-steps
returns-in_default-here-clause-steps c =
    next_steps c.args.self.now c.skip-in_default-here.new.self (shape_in c.args.shape) c.requires.first c.skip-in_default-here.ensures.next
