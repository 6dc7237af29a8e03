use Rattle.std.proofs.Common.{◌≡◌, List, length, slice_get, sym, ap, ◌∙◌, arith}
use Rattle.std.proofs.lemmas.Grind.{common_steps}
use Rattle.layout_model.specs.declared.shapes.Shape.{Shape}
use Rattle.layout_model.specs.declared.shape_lists.Run.{Run}
use Rattle.layout_model.specs.ShapeLists.{shapes_of}
use Rattle.layout_model.proofs.ShapeListLemmas.{without_runs}
use Rattle.layout_model.proofs.shape_lists.Shapes.get.Goals as goal

own_alone : (own read shapes : List Shape) (runs seen : List Run) → read ≡ own → seen ≡ runs → length seen ≡ 0 → shapes_of own runs ≡ shapes → read ≡ shapes
own_alone own read shapes runs seen same alike none all = same ∙ sym (without_runs own runs (sym (ap length alike) ∙ none)) ∙ all

pub own_shape-requires : goal.own_shape-requires
own_shape-requires c =
    let none : length c.as_slice-runs.result.now ≡ 0 = grind (arith, common_steps, c.is_empty.ensures, c.if-is_empty.true) in
    rw (own_alone c.self.inside.own c.as_slice-own.result.now c.args.self.now c.self.inside.runs c.as_slice-runs.result.now
    c.as_slice-own.ensures c.as_slice-runs.ensures none c.self.view_is) c.requires.inside

pub returns-then-is_empty : goal.returns-then-is_empty
returns-then-is_empty c =
    let none : length c.as_slice-runs.result.now ≡ 0 = grind (arith, common_steps, c.is_empty.ensures, c.if-is_empty.true) in
    ap (λ l. slice_get l c.args.k)
    (sym (own_alone c.self.inside.own c.as_slice-own.result.now c.args.self.now c.self.inside.runs c.as_slice-runs.result.now
    c.as_slice-own.ensures c.as_slice-runs.ensures none c.self.view_is)) ∙ c.own_shape.ensures
