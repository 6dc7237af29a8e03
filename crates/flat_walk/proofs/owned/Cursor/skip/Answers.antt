use Rattle.std.proofs.Common.{length, refl}
use Rattle.flat_walk.specs.EntryLists.{entries_in}
use Rattle.flat_walk.specs.Blocks.{boxes_in}
use Rattle.flat_walk.proofs.EntryLemmas.{single_next}
use Rattle.flat_walk.proofs.CursorLemmas.{boxed_on, shapes_next}
use Rattle.flat_walk.proofs.owned.Cursor.skip.Goals as goal

pub returns-clause-cursor : goal.returns-clause-cursor
returns-clause-cursor c =
    let s = c.args.self.now in
    let next = c.after_first-next in
    record {
      orient = c.requires.cursor.orient;
      near = c.requires.cursor.near;
      grid = c.requires.cursor.grid;
      single = rw c.after-self.ensures
          (single_next s.single s.number (length s.shapes.now) next.result (entries_in s.lists)
          c.requires.cursor.single c.requires.inside next.ensures);
      boxed = rw c.after-self.ensures
          (boxed_on s.number next.result s.shapes.now (entries_in s.lists) (boxes_in s.boxes)
          c.requires.inside next.ensures c.requires.cursor.boxed);
    }

pub returns-clause-next : goal.returns-clause-next
returns-clause-next c =
    let s = c.args.self.now in
    let next = c.after_first-next in
    record {
      shapes = shapes_next s.number next.result (entries_in s.lists) s.shapes.now next.ensures;
      lists = c.after-self.ensures;
      place = refl;
      orient = refl;
      at = refl;
    }
