use Rattle.std.proofs.Common.{◌∙◌, ap}
use Rattle.cell_tree.specs.Boxes.{summed_box}
use Rattle.cell_tree.proofs.SpotLemmas.{spot_in}
use Rattle.cell_tree.proofs.spots.placed_box.Goals as goal

pub returns-then-not-is_near_box-clause-around : goal.returns-then-not-is_near_box-clause-around
returns-then-not-is_near_box-clause-around c = λ k by v here inside near. c.wide.ensures.around _ near

pub returns-then-is_near_box-clause-around : goal.returns-then-is_near_box-clause-around
returns-then-is_near_box-clause-around c = λ k by v here inside near.
    spot_in c.args.placement.now c.args.hull c.moves_of.result c.summed-around.result k by v here inside
    c.moves_of.ensures.least
    (c.summed-around.ensures ∙ ap (λ f. summed_box f c.moves_of.result) c.oriented.ensures.value)

pub returns-clause-around : goal.returns-clause-around
returns-clause-around c = λ k by v here inside near. c.wide-2.ensures.around _ near
