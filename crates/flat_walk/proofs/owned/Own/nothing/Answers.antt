use Rattle.std.proofs.Common.{◌∙◌, ap, map, Some}
use Rattle.flat_walk.specs.EntryLists.{entries_in}
use Rattle.flat_walk.specs.Kept.{all_lists}
use Rattle.flat_walk.specs.Rests.{placed_rest}
use Rattle.flat_walk.proofs.BoxLemmas.{boxed_none}
use Rattle.flat_walk.proofs.CursorLemmas.{no_lists}
use Rattle.flat_walk.proofs.owned.Own.nothing.Goals as goal

pub of-requires-clause-boxed : goal.of-requires-clause-boxed
of-requires-clause-boxed c = boxed_none c.args.shapes.now (all_lists (entries_in c.none.result))

pub returns-clause-list : goal.returns-clause-list
returns-clause-list c = λ pair.
    c.of.ensures.list pair
    ∙ ap (map Some) (ap (λ l. placed_rest c.args.orient c.args.at pair c.args.shapes.now (all_lists l) 0) c.none.ensures
    ∙ no_lists c.args.orient c.args.at pair c.args.shapes.now 0)
