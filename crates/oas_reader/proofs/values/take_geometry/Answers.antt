use Rattle.std.proofs.lemmas.Result.{on_ok_weaker}
use Rattle.oas_reader.proofs.GeometryLemmas.{placings_still, shapes_keep, shapes_refused, err_weaker}
use Rattle.oas_reader.proofs.values.take_geometry.Goals as goal

pub returns-in_default : goal.returns-in_default
returns-in_default c = record {
  placings = on_ok_weaker c.take_shapes.result
      (λ e. placings_still c.args.outline.body c.args.fields.now _ c.args.drafts.now c.take_shapes.new.drafts
      c.in_default.not-Placement e) c.take_shapes.ensures.placings;
  shapes = c.take_shapes.ensures.shapes;
  begun = c.take_shapes.ensures.begun;
  whole = c.take_shapes.ensures.whole;
  still = λ called is none. c.take_shapes.ensures.still none;
  within = λ before. c.take_shapes.ensures.within c.args.bytes.now before;
  kept = on_ok_weaker c.take_shapes.result
      (λ kept rule. shapes_keep c.args.bytes.now c.args.outline.body _ _ _ _ rule c.in_default.not-Placement
      (kept rule)) c.take_shapes.ensures.kept;
  broken = err_weaker c.take_shapes.result
      (λ refusal. shapes_refused c.args.bytes.now c.args.outline.body _ _ _ _ _ refusal c.in_default.not-Placement)
      c.take_shapes.ensures.broken;
}
