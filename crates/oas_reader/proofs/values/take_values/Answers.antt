use Rattle.oas_reader.proofs.RuleBridges.{values_kept, look_bad, geometry_bad, drafts_added}
use Rattle.oas_reader.proofs.values.take_values.Goals as goal

pub returns-in-Err-clause-bad : goal.returns-in-Err-clause-bad
returns-in-Err-clause-bad c = λ wanted past r t.
    look_bad c.args.bytes.now wanted c.args.sorted.now past r c.args.outline c.args.fields.now c.args.at c.in-Err.bad t c.in-Err.ensures.bad

pub returns-in-Ok-take_geometry-clause-kept : goal.returns-in-Ok-take_geometry-clause-kept
returns-in-Ok-take_geometry-clause-kept c = λ wanted past r t.
    values_kept c.args.bytes.now wanted c.args.sorted.now past r c.args.outline c.args.fields.now c.in-Ok.wanted t
    (record {
      near = c.in-Ok.ensures.near;
      defined = c.in-Ok.ensures.defined;
      version =
          c.in-Ok.ensures.version;
      scheme = c.in-Ok.ensures.scheme;
      wanting_is = c.in-Ok.ensures.wanting;
    })
    c.in-Ok-take_geometry.ensures.kept

pub returns-in-Ok-take_geometry-clause-drafts : goal.returns-in-Ok-take_geometry-clause-drafts
returns-in-Ok-take_geometry-clause-drafts c = λ wanted past r t none before.
    drafts_added wanted c.args.sorted.now past c.args.at r c.args.outline c.args.fields.now c.in-Ok.wanted c.args.drafts.now c.take_geometry.new.drafts t
    c.in-Ok.ensures.wanting none before
    (record {
      placings = c.in-Ok-take_geometry.ensures.placings;
      shapes = c.in-Ok-take_geometry.ensures.shapes;
      begun =
          c.in-Ok-take_geometry.ensures.begun;
      whole = c.in-Ok-take_geometry.ensures.whole;
    })

pub returns-in-Err-take_geometry-clause-bad : goal.returns-in-Err-take_geometry-clause-bad
returns-in-Err-take_geometry-clause-bad c = λ wanted past r t.
    geometry_bad c.args.bytes.now wanted c.args.sorted.now past r c.args.outline c.args.fields.now c.in-Ok.wanted c.args.at c.in-Err-take_geometry.bad t
    (record {
      near = c.in-Ok.ensures.near;
      defined = c.in-Ok.ensures.defined;
      version =
          c.in-Ok.ensures.version;
      scheme = c.in-Ok.ensures.scheme;
      wanting_is = c.in-Ok.ensures.wanting;
    })
    c.in-Err-take_geometry.ensures.broken
