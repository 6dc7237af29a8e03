use Rattle.std.proofs.Common.{rules, FitsSigned, w64, ◌≡◌, ◌∙◌, sym, inl, inr}
use Rattle.std.specs.Prelude.{pos, ◌≢◌}
use Rattle.std.proofs.lemmas.Int.{to_z-of_z}
use Rattle.layout_model.specs.declared.paths.PathBad.TheVariants as paths
use Rattle.oas_shapes.specs.declared.drawing.Undrawn.TheVariants.{Rule, NoMemory as Wanting}
use Rattle.oas_shapes.proofs.paths.drawn.Goals as goal
use Rattle.oas_shapes.proofs.ShapeLemmas.{path_items, path_grid, path_broken, wanting_path}

pub returns-in-Ok-clause-grid : goal.returns-in-Ok-clause-grid
returns-in-Ok-clause-grid c =
    let half : FitsSigned w64 c.args.brush.half = search rules in
    let begin : FitsSigned w64 c.args.brush.begin = search rules in
    let end : FitsSigned w64 c.args.brush.end = search rules in
    path_grid c.args.pair c.args.brush c.args.points.now c.args.offsets.now c.in-Ok.shapes.items c.requires.offsets
    (path_items c.args.pair c.args.brush c.args.points.now c.args.offsets.now c.in-Ok.shapes.items
    (simp to_z-of_z at c.in-Ok.ensures.none) (simp to_z-of_z at c.in-Ok.ensures.shapes))
    c.in-Ok.ensures.outlines

pub returns-in-Ok-clause-kept : goal.returns-in-Ok-clause-kept
returns-in-Ok-clause-kept c = λ wide.
    let half : FitsSigned w64 c.args.brush.half = search rules in
    let begin : FitsSigned w64 c.args.brush.begin = search rules in
    let end : FitsSigned w64 c.args.brush.end = search rules in
    let drawable = simp to_z-of_z at c.in-Ok.ensures.drawable in
    drawable wide

pub returns-in-Err-clause-broken : goal.returns-in-Err-clause-broken
returns-in-Err-clause-broken c = λ rule e.
    let half : FitsSigned w64 c.args.brush.half = search rules in
    let begin : FitsSigned w64 c.args.brush.begin = search rules in
    let end : FitsSigned w64 c.args.brush.end = search rules in
    let none = simp to_z-of_z at c.in-Err.ensures.none in
    let ok = simp to_z-of_z at c.in-Err.ensures.ok in
    let wide : c.args.brush.half ≢ pos 0 = λ zero. none zero in
    path_broken c.args.brush c.args.points.now c.in-Err.bad rule
    (let inner : c.undrawn.result ≡ Rule rule = cc in sym c.undrawn.ensures ∙ inner) wide
    (λ more drawable. elim (ok wide drawable) [ inl some ↦ absurd (cc) | inr wanting ↦ more (cc) ])

pub returns-in-Err-clause-memory : goal.returns-in-Err-clause-memory
returns-in-Err-clause-memory c = λ e wide.
    let half : FitsSigned w64 c.args.brush.half = search rules in
    let begin : FitsSigned w64 c.args.brush.begin = search rules in
    let end : FitsSigned w64 c.args.brush.end = search rules in
    let memory = simp to_z-of_z at c.in-Err.ensures.memory in
    let bad : c.in-Err.bad ≡ paths.NoMemory =
    wanting_path c.in-Err.bad (let inner : c.undrawn.result ≡ Wanting = cc in sym c.undrawn.ensures ∙ inner) in
    (memory (cc)).1
