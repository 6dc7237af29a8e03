use Rattle.std.proofs.Common.{rules, FitsSigned, w64, ◌≡◌, ◌∙◌, sym, subst, inl, inr}
use Rattle.std.specs.Prelude.{pos, ◌≢◌}
use Rattle.std.proofs.lemmas.Int.{to_z-of_z}
use Rattle.geo_stream.specs.Refusals.{IsForFault}
use Rattle.geo_stream.specs.declared.refusal.Refusal.TheVariants.{NoMemory as Wanting}
use Rattle.layout_model.specs.declared.paths.PathBad.TheVariants as paths
use Rattle.gds_reader.specs.Refused.{IsRefusedBy}
use Rattle.gds_reader.specs.Values.{KeepsGdsiiPath}
use Rattle.gds_reader.proofs.drawing.shapes_of_path.Goals as goal
use Rattle.gds_reader.proofs.GridLemmas.{all_within}
use Rattle.gds_reader.proofs.DrawLemmas.{path_items, path_grid, path_broken, wanting_path}

pub path_shapes-requires-clause-points : goal.path_shapes-requires-clause-points
path_shapes-requires-clause-points c = all_within c.args.points.now c.requires.points

pub returns-in-Ok-clause-shapes : goal.returns-in-Ok-clause-shapes
returns-in-Ok-clause-shapes c =
    let half : FitsSigned w64 c.args.brush.half = search rules in
    let begin : FitsSigned w64 c.args.brush.begin = search rules in
    let end : FitsSigned w64 c.args.brush.end = search rules in
    path_items c.args.pair c.args.fixed c.args.brush.half c.args.brush.begin c.args.brush.end c.args.points.now c.in-Ok.shapes.items
    c.in_ok-offsets.offsets c.in_ok-offsets.ensures.ok (simp to_z-of_z at c.in-Ok.ensures.none) (simp to_z-of_z at c.in-Ok.ensures.shapes)

pub returns-in-Ok-clause-grid : goal.returns-in-Ok-clause-grid
returns-in-Ok-clause-grid c =
    path_grid c.args.pair c.args.fixed c.args.brush.half c.args.brush.begin c.args.brush.end c.args.points.now c.in-Ok.shapes.items
    (let half : FitsSigned w64 c.args.brush.half = search rules in
    let begin : FitsSigned w64 c.args.brush.begin = search rules in
    let end : FitsSigned w64 c.args.brush.end = search rules in
    path_items c.args.pair c.args.fixed c.args.brush.half c.args.brush.begin c.args.brush.end c.args.points.now c.in-Ok.shapes.items
    c.in_ok-offsets.offsets c.in_ok-offsets.ensures.ok (simp to_z-of_z at c.in-Ok.ensures.none) (simp to_z-of_z at c.in-Ok.ensures.shapes))
    c.in-Ok.ensures.outlines

pub returns-in-Ok-clause-kept : goal.returns-in-Ok-clause-kept
returns-in-Ok-clause-kept c = λ rule e wide.
    let half : FitsSigned w64 c.args.brush.half = search rules in
    let begin : FitsSigned w64 c.args.brush.begin = search rules in
    let end : FitsSigned w64 c.args.brush.end = search rules in
    let drawable = simp to_z-of_z at c.in-Ok.ensures.drawable in
    drawable wide

pub returns : goal.returns
returns c = record {
  shapes = tt;
  grid = tt;
  kept = tt;
  broken =
      let half : FitsSigned w64 c.args.brush.half = search rules in
      let begin : FitsSigned w64 c.args.brush.begin = search rules in
      let end : FitsSigned w64 c.args.brush.end = search rules in
      let none = simp to_z-of_z at c.in-Err.ensures.none in
      let ok = simp to_z-of_z at c.in-Err.ensures.ok in
      let wide : c.args.brush.half ≢ pos 0 = λ zero. none zero in
      subst (IsForFault (IsRefusedBy (KeepsGdsiiPath c.args.brush.half c.args.brush.begin c.args.brush.end c.args.points.now) c.args.at))
      (sym c.path_refusal.ensures)
      (path_broken c.args.brush.half c.args.brush.begin c.args.brush.end c.args.points.now c.in-Err.bad c.args.at wide
      (λ more drawable. elim (ok wide drawable) [ inl some ↦ absurd (cc) | inr wanting ↦ more (cc) ]));
  memory = λ e rule same wide.
      let half : FitsSigned w64 c.args.brush.half = search rules in
      let begin : FitsSigned w64 c.args.brush.begin = search rules in
      let end : FitsSigned w64 c.args.brush.end = search rules in
      let memory = simp to_z-of_z at c.in-Err.ensures.memory in
      let bad : c.in-Err.bad ≡ paths.NoMemory =
      wanting_path c.in-Err.bad c.args.at (let inner : c.path_refusal.result ≡ Wanting = cc in sym c.path_refusal.ensures ∙ inner) in
      (memory (cc)).1;
}
