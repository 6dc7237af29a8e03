use Rattle.std.proofs.Common.{◌∙◌, sym, ap, subst}
use Rattle.layout_model.specs.Grids.{IsGrid, grid_places}
use Rattle.layout_model.specs.Layouts.{AreOffsets}
use Rattle.gds_reader.proofs.placing.spread.Goals as goal

pub grid-requires : goal.grid-requires
grid-requires c =
    subst (λ n. IsGrid n c.from-nv.result c.args.steps.across c.args.steps.upward) (sym c.from-nu.ensures)
    (subst (λ n. IsGrid c.args.columns n c.args.steps.across c.args.steps.upward) (sym c.from-nv.ensures) c.requires.fits)

pub returns-in-Ok-clause-places : goal.returns-in-Ok-clause-places
returns-in-Ok-clause-places c =
    c.in-Ok.ensures.ok ∙ ap (λ n. grid_places n c.from-nv.result c.args.steps.across c.args.steps.upward) c.from-nu.ensures
    ∙ ap (λ n. grid_places c.args.columns n c.args.steps.across c.args.steps.upward) c.from-nv.ensures

pub returns-in-Ok-clause-grid : goal.returns-in-Ok-clause-grid
returns-in-Ok-clause-grid c =
    subst AreOffsets
    (sym (
    c.in-Ok.ensures.ok ∙ ap (λ n. grid_places n c.from-nv.result c.args.steps.across c.args.steps.upward) c.from-nu.ensures
    ∙ ap (λ n. grid_places c.args.columns n c.args.steps.across c.args.steps.upward) c.from-nv.ensures))
    c.requires.grid
