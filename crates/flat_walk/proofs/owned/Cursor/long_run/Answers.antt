use Rattle.std.proofs.Common.{◌++◌, [], replicate, ap, arith, drop}
use Rattle.flat_walk.specs.EntryLists.{entries_in}
use Rattle.flat_walk.specs.Kept.{all_lists}
use Rattle.flat_walk.specs.PieceLists.{listed}
use Rattle.flat_walk.proofs.BoxLemmas.{box_corners}
use Rattle.flat_walk.proofs.owned.Cursor.long_run.Goals as goal

pub rows_of-requires-clause-low : goal.rows_of-requires-clause-low
rows_of-requires-clause-low c = (box_corners c.in-Some-box_of_pieces.around c.in-Some-box_of_pieces.ensures.near).0

pub rows_of-requires-clause-high : goal.rows_of-requires-clause-high
rows_of-requires-clause-high c = (box_corners c.in-Some-box_of_pieces.around c.in-Some-box_of_pieces.ensures.near).1

pub returns : goal.returns
returns c = record {
  pieces = listed c.in-Some.entry.pieces;
  later = replicate c.in-Some.entry.more [] ++ all_lists (drop 1 (entries_in c.args.self.now.lists));
  box = c.in-Some-box_of_pieces.around;
  lists = ap all_lists c.in-Some.ensures.first;
  around = c.in-Some-box_of_pieces.ensures.around;
  between = c.rows_of.ensures.between;
  near = c.rows_of.ensures.near;
  inside = omega (arith, c.if-count-self.false, c.count-count.ensures);
}
