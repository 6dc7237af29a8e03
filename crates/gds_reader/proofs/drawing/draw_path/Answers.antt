use Rattle.std.proofs.Common.{◌≡◌, Err, ap, sym, subst, ◌∙◌}
use Rattle.std.specs.Prelude.{All}
use Rattle.std.proofs.lemmas.List.Elements.{All-append}
use Rattle.geo_stream.specs.Refusals.{IsForFault}
use Rattle.geo_stream.specs.declared.refusal.Refusal.TheVariants.{NoMemory}
use Rattle.layout_model.specs.Layouts.{IsShapeOnGrid}
use Rattle.gds_reader.specs.Refused.{IsRefusedBy}
use Rattle.gds_reader.specs.Values.{KeepsGdsiiPath}
use Rattle.gds_reader.specs.declared.drawing.Brush.{Brush}
use Rattle.gds_reader.proofs.drawing.draw_path.Goals as goal

pub returns-in_ok-push_all-in-Ok-clause-kept : goal.returns-in_ok-push_all-in-Ok-clause-kept
returns-in_ok-push_all-in-Ok-clause-kept c = λ rule.
    subst (λ (b : Brush). KeepsGdsiiPath b.half b.begin b.end c.args.points.now rule) c.brush.ensures.brush (c.in-Ok.ensures.kept rule)

pub returns-in_ok-push_all-in-Ok-clause-grid : goal.returns-in_ok-push_all-in-Ok-clause-grid
returns-in_ok-push_all-in-Ok-clause-grid c = λ all.
    subst (All IsShapeOnGrid) (sym c.in_ok-push_all-in-Ok.ensures)
    (All-append IsShapeOnGrid c.args.shapes.now c.in-Ok.drawn.items all c.in-Ok.ensures.grid)

pub returns-in_err-push_all-in-Ok-clause-memory : goal.returns-in_err-push_all-in-Ok-clause-memory
returns-in_err-push_all-in-Ok-clause-memory c = λ e rule low.
    low.broken (subst (λ (b : Brush). KeepsGdsiiPath b.half b.begin b.end c.args.points.now rule) c.brush.ensures.brush (c.in-Ok.ensures.kept rule))

pub returns-in-Err-clause-broken : goal.returns-in-Err-clause-broken
returns-in-Err-clause-broken c =
    subst (λ (b : Brush). IsForFault (IsRefusedBy (KeepsGdsiiPath b.half b.begin b.end c.args.points.now) c.args.at) c.in-Err.refusal)
    c.brush.ensures.brush c.in-Err.ensures.broken

pub returns-in-Err-clause-memory : goal.returns-in-Err-clause-memory
returns-in-Err-clause-memory c = λ e rule low.
    let wanting : c.in-Err.refusal ≡ NoMemory = cc in
    low.broken
    (subst (λ (b : Brush). KeepsGdsiiPath b.half b.begin b.end c.args.points.now rule) c.brush.ensures.brush
    (c.shapes_of_path.ensures.memory (c.in-Err.is ∙ ap Err wanting) rule))
