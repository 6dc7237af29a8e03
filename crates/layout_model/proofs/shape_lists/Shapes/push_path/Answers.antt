use Rattle.std.proofs.Common.{◌≡◌, ◌++◌, ◌∷◌, [], map, length, refl, subst, sym, ap, ◌∙◌, arith}
use Rattle.layout_model.specs.Paths.{drawn_along}
use Rattle.layout_model.specs.Segments.{segments_in, moved_segment, AreNearAfter}
use Rattle.layout_model.specs.declared.shape_lists.Run.{Run}
use Rattle.layout_model.proofs.ShapeListLemmas.{run_keeps, run_shows}
use Rattle.layout_model.proofs.shape_lists.Shapes.push_path.Goals as goal

pub invariant_of-self-2 : goal.invariant_of-self-2
invariant_of-self-2 c =
    let run : Run = record {
      path = c.in_ok-clone.field-0;
      by = c.args.by;
      brush = c.args.brush;
      pair = c.args.pair;
      offsets = c.args.offsets;
      is_fixed = c.args.fixed;
      times = 1;
      after = length c.as_slice.result.now;
      before = c.self.inside.count;
    } in
    let new : c.push.new.self ≡ c.self.inside.runs ++ run ∷ [] = c.in_ok-push.ensures.ok in
    let same : c.in_ok-clone.field-0.value ≡ c.path.inside.segments.value = c.in_ok-clone.ensures.cases in
    let items = ap (λ v. segments_in v.items) same ∙ c.path.view_is in
    let read = ap (λ v. length v.items) c.deref.ensures ∙ sym (ap (λ v. length v.items) same) in
    rw new
    (run_keeps c.self.inside.own c.self.inside.runs c.self.inside.count c.in-Some.count run c.self.invariant
    refl (ap length c.as_slice.ensures) refl (omega (arith, c.in-Some.ensures, c.len.ensures, read))
    (subst (AreNearAfter c.args.by) (sym items) c.requires.near)
    c.requires.brush)

pub returns : goal.returns
returns c =
    let run : Run = record {
      path = c.in_ok-clone.field-0;
      by = c.args.by;
      brush = c.args.brush;
      pair = c.args.pair;
      offsets = c.args.offsets;
      is_fixed = c.args.fixed;
      times = 1;
      after = length c.as_slice.result.now;
      before = c.self.inside.count;
    } in
    let new : c.push.new.self ≡ c.self.inside.runs ++ run ∷ [] = c.in_ok-push.ensures.ok in
    let same : c.in_ok-clone.field-0.value ≡ c.path.inside.segments.value = c.in_ok-clone.ensures.cases in
    let items = ap (λ v. segments_in v.items) same ∙ c.path.view_is in
    rw new
    (run_shows c.self.inside.own c.self.inside.runs c.self.inside.count run c.self.invariant (ap length c.as_slice.ensures)
    ∙ ap (λ l. l ++ drawn_along c.args.pair c.args.offsets c.args.fixed (map (moved_segment c.args.by) (segments_in run.path.value.items))
    run.brush.half run.brush.begin run.brush.end) c.self.view_is
    ∙ ap (λ l. c.args.self.now ++ drawn_along c.args.pair c.args.offsets c.args.fixed (map (moved_segment c.args.by) l)
    run.brush.half run.brush.begin run.brush.end) items)
