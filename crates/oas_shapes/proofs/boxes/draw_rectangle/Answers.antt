use Rattle.std.proofs.Common.{◌∙◌, ◌++◌, ◌∷◌, [], ap, sym, subst, refl}
use Rattle.std.specs.Prelude.{All}
use Rattle.std.proofs.lemmas.List.Elements.{All-push}
use Rattle.layout_model.specs.Layouts.{IsShapeOnGrid}
use Rattle.oas_shapes.proofs.BoxLemmas.{IsBox, box_of, box_keeps, box_shape, box_on_grid}
use Rattle.oas_shapes.proofs.boxes.draw_rectangle.Goals as goal

-- what is known of the rectangle
found : (c : goal.In-Ok) → IsBox c.args.at c.args.width c.args.height c.doubled.result c.doubled-2.result
found c =
    box_of c.args.at c.args.width c.args.height c.in-Some.high c.doubled.result c.doubled-2.result (c.if-not-is_size.ensures.0 refl)
    (c.if-not-is_size-2.ensures.0 refl) c.requires.at c.in-Some.ensures.some c.doubled.ensures c.doubled-2.ensures
    c.push_rectangle.ensures.edges c.push_rectangle.ensures.closed

pub returns-in-Ok-clause-shapes : goal.returns-in-Ok-clause-shapes
returns-in-Ok-clause-shapes c =
    c.in-Ok.ensures.shapes
    ∙ ap (λ shape. c.args.shapes.now ++ shape ∷ []) (box_shape c.args.pair c.args.at c.args.width c.args.height _ _ (found c))

pub returns-in-Ok-clause-grid : goal.returns-in-Ok-clause-grid
returns-in-Ok-clause-grid c = λ old.
    let shape = box_shape c.args.pair c.args.at c.args.width c.args.height _ _ (found c) in
    subst (All IsShapeOnGrid) (sym c.in-Ok.ensures.shapes)
    (All-push IsShapeOnGrid _ _ old
    (subst IsShapeOnGrid (sym shape) (box_on_grid c.args.pair c.args.at c.args.width c.args.height _ _ (found c))))

pub returns-in-Ok-clause-kept : goal.returns-in-Ok-clause-kept
returns-in-Ok-clause-kept c = box_keeps c.args.at c.args.width c.args.height _ _ (found c)

pub returns-in-Err-clause-memory : goal.returns-in-Err-clause-memory
returns-in-Err-clause-memory c = λ e.
    box_keeps c.args.at c.args.width c.args.height _ _
    (box_of c.args.at c.args.width c.args.height c.in-Some.high c.doubled.result c.doubled-2.result (c.if-not-is_size.ensures.0 refl)
    (c.if-not-is_size-2.ensures.0 refl) c.requires.at c.in-Some.ensures.some c.doubled.ensures c.doubled-2.ensures
    c.push_rectangle.ensures.edges c.push_rectangle.ensures.closed)
