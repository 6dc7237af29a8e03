use Rattle.std.proofs.Common.{◌≡◌, ◌+◌, ◌-◌, ◌≤◌, ℕ, List, Some, length, take, drop, slice_get, ap, ◌∙◌, arith}
use Rattle.layout_model.specs.ShapeLists.{shape_in}
use Rattle.layout_model.specs.declared.shapes.Shape.{Shape}
use Rattle.cell_tree.specs.Counting.{saturated, own_count}
use Rattle.cell_tree.proofs.CountLemmas.{shape_counted}
use Rattle.cell_tree.proofs.SlotLemmas.{slot_drop}
use Rattle.cell_tree.proofs.crowds.count_between.Goals as goal

-- one more of the shapes from a number on
one_more : (shapes : List Shape) (from number count : ℕ) (shape : Shape) → from ≤ number → slice_get shapes number ≡ Some shape
    → count ≡ saturated (own_count (take (number - from) (drop from shapes)))
    → saturated (count + length shape.offsets) ≡ saturated (own_count (take (number + 1 - from) (drop from shapes)))
one_more shapes from number count shape order here so =
    let place : from + (number - from) ≡ number = omega arith in
    let next : number - from + 1 ≡ number + 1 - from = omega arith in
    shape_counted (drop from shapes) (number - from) count shape (slot_drop from shapes (number - from) ∙ ap (slice_get shapes) place ∙ here) so
    ∙ ap (λ n. saturated (own_count (take n (drop from shapes)))) next

pub loop-number-preserved : goal.loop-number-preserved
loop-number-preserved c =
    let h = one_more c.args.shapes.now c.args.from c.loop-number.number c.loop-number.count (shape_in c.get.result) c.loop-number.auto.number
    c.get.ensures c.loop-number.invariant in omega (arith, h)
