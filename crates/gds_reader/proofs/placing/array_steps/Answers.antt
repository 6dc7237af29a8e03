use Rattle.std.proofs.Common.{arith, ◌∙◌, ap}
use Rattle.half_grid.specs.declared.plane.Point.{Point}
use Rattle.layout_model.specs.Grids.{grid_places}
use Rattle.gds_reader.specs.Meaning.{step_of}
use Rattle.gds_reader.proofs.placing.array_steps.Goals as goal
use Rattle.gds_reader.proofs.StepLemmas.{grid_fits, grid_offsets, step_is}

pub returns-in-Some-step-clause-places : goal.returns-in-Some-step-clause-places
returns-in-Some-step-clause-places c =
    ap (λ (s : Point). grid_places c.args.columns c.args.rows s c.in-Some-step.upward)
    (step_is c.args.columns c.args.origin c.args.right c.in-Some.across c.in-Some.ensures.exact)
    ∙ ap (λ (t : Point). grid_places c.args.columns c.args.rows (step_of c.args.columns c.args.origin c.args.right) t)
    (step_is c.args.rows c.args.origin c.args.up c.in-Some-step.upward c.in-Some-step.ensures.exact)

pub returns-in-Some-step-clause-fits : goal.returns-in-Some-step-clause-fits
returns-in-Some-step-clause-fits c =
    grid_fits c.args.columns c.args.rows c.args.origin c.args.right c.args.up c.in-Some.across c.in-Some-step.upward (omega arith) (omega arith)
    c.requires.origin c.requires.right c.requires.up c.in-Some.ensures.exact c.in-Some-step.ensures.exact

pub returns-in-Some-step-clause-grid : goal.returns-in-Some-step-clause-grid
returns-in-Some-step-clause-grid c =
    grid_offsets c.args.columns c.args.rows c.args.origin c.args.right c.args.up c.in-Some.across c.in-Some-step.upward
    c.requires.origin c.requires.right c.requires.up c.in-Some.ensures.exact c.in-Some-step.ensures.exact
