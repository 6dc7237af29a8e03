use Rattle.std.proofs.Common.{◌∙◌, ◌+◌, sym, arith, drop}
use Rattle.layout_model.specs.ShapeLists.{shape_in}
use Rattle.flat_walk.specs.EntryLists.{entries_in}
use Rattle.flat_walk.specs.Hands.{shapes_left}
use Rattle.flat_walk.proofs.CursorLemmas.{first_inside, list_past, next_list, next_steps, steps_next}
use Rattle.flat_walk.proofs.owned.Cursor.advance.Goals as goal

pub returns-clause-list : goal.returns-clause-list
returns-clause-list c = λ pair.
    let s = c.args.self.now in
    let count = c.count-count.ensures in
    next_list pair s c.skip.new.self c.skip.ensures.next
    ∙ sym (list_past s.orient s.at pair (shapes_left s) (drop (s.number + 1) s.shapes.now) (shape_in c.args.shape)
    (entries_in s.lists) (s.place + 1) c.requires.first.is (omega (arith, count, c.if-next-count.false)))

pub skip-requires-clause-inside : goal.skip-requires-clause-inside
skip-requires-clause-inside c =
    let s = c.args.self.now in
    first_inside s.number s.shapes.now (drop (s.number + 1) s.shapes.now) (shape_in c.args.shape) c.requires.first.is

pub returns-clause-steps : goal.returns-clause-steps
returns-clause-steps c = next_steps c.args.self.now c.skip.new.self (shape_in c.args.shape) c.requires.first c.skip.ensures.next

pub returns-then-next-count-clause-steps : goal.returns-then-next-count-clause-steps
returns-then-next-count-clause-steps c =
    let s = c.args.self.now in
    steps_next (shapes_left s) (drop (s.number + 1) s.shapes.now) (shape_in c.args.shape) s.place c.requires.first.is c.requires.inside
