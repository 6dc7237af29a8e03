use Rattle.std.proofs.Common.{◌∙◌, sym, ap, subst, arith, ◌+◌, ◌^◌, true, ◌≡◌, map, ◌++◌, ◌&&◌, nat_eq}
use Rattle.layout_model.specs.Layouts.{IsMove, IsWithin}
use Rattle.layout_model.specs.ShapeLists.{shape_in}
use Rattle.layout_model.specs.declared.pair.Pair.{Pair}
use Rattle.flat_walk.specs.PieceLists.{listed}
use Rattle.flat_walk.specs.Quads.{quad_image}
use Rattle.flat_walk.specs.Walks.{is_on}
use Rattle.flat_walk.specs.Rests.{placed_list, places_rest}
use Rattle.flat_walk.proofs.RestLemmas.{places_on, slot_all, not_false}
use Rattle.flat_walk.proofs.PointLemmas.{image_within, within_more}
use Rattle.flat_walk.proofs.owned.Cursor.here.Goals as goal

pub returns-clause-list : goal.returns-clause-list
returns-clause-list c = λ pair on.
    let o = c.args.self.now.orient in
    places_on o c.args.self.now.at c.nth-by.result pair (shape_in c.args.shape) (listed c.args.pieces) c.args.self.now.place on c.nth-by.ensures
    ∙ ap (λ at. placed_list o at (listed c.args.pieces) ++ map (quad_image o c.args.self.now.at)
    (places_rest pair (shape_in c.args.shape) (listed c.args.pieces) (c.args.self.now.place + 1))) (sym c.image.ensures)

pub returns-clause-hand : goal.returns-clause-hand
returns-clause-hand c =
    let move = slot_all IsMove (shape_in c.args.shape).offsets c.args.self.now.place c.nth-by.result c.requires.grid.offsets.moves c.nth-by.ensures in
    record {
      orient = c.requires.orient;
      near = subst (IsWithin (2 ^ 60)) (sym c.image.ensures) (within_more (2 ^ 54 + 2 ^ 45) (2 ^ 60) _ (omega arith)
          (image_within c.args.self.now.orient (2 ^ 54) (2 ^ 41) c.args.self.now.at c.nth-by.result c.requires.orient.factor c.requires.near move.near));
      shots = c.requires.shots;
    }

pub image-requires-clause-near : goal.image-requires-clause-near
image-requires-clause-near c =
    let move = slot_all IsMove (shape_in c.args.shape).offsets c.args.self.now.place c.nth-by.result c.requires.grid.offsets.moves c.nth-by.ensures in
    within_more (2 ^ 41) (2 ^ 53) _ (omega arith) move.near
