use Rattle.std.proofs.Common.{ap, ◌∙◌, subst, sym}
use Rattle.layout_model.specs.PathBounds.{IsNearStretch}
use Rattle.layout_model.specs.Segments.{segments_in}
use Rattle.layout_model.proofs.SegmentListLemmas.{drawn_at, near_at}
use Rattle.layout_model.proofs.shape_lists.shape_of_run.Goals as goal

pub moved_stretch-requires-clause-from : goal.moved_stretch-requires-clause-from
moved_stretch-requires-clause-from c =
    let items = c.as_slice.ensures.value ∙ ap (λ v. v.items) c.deref.ensures in
    let run = c.args.run.now in
    let at = rw items at c.stretch_at-stretch.ensures in
    (near_at run.by run.brush (segments_in run.path.value.items) c.args.j c.stretch_at-stretch.result c.requires.near c.requires.brush at).from

pub moved_stretch-requires-clause-to : goal.moved_stretch-requires-clause-to
moved_stretch-requires-clause-to c =
    let items = c.as_slice.ensures.value ∙ ap (λ v. v.items) c.deref.ensures in
    let run = c.args.run.now in
    let at = rw items at c.stretch_at-stretch.ensures in
    (near_at run.by run.brush (segments_in run.path.value.items) c.args.j c.stretch_at-stretch.result c.requires.near c.requires.brush at).to

pub outline_of-rectangle-requires : goal.outline_of-rectangle-requires
outline_of-rectangle-requires c =
    let items = c.as_slice.ensures.value ∙ ap (λ v. v.items) c.deref.ensures in
    let run = c.args.run.now in
    let at = rw items at c.stretch_at-stretch.ensures in
    subst IsNearStretch (sym c.moved_stretch.ensures)
    (near_at run.by run.brush (segments_in run.path.value.items) c.args.j c.stretch_at-stretch.result c.requires.near c.requires.brush at)

pub returns : goal.returns
returns c =
    let items = c.as_slice.ensures.value ∙ ap (λ v. v.items) c.deref.ensures in
    let run = c.args.run.now in
    let at = rw items at c.stretch_at-stretch.ensures in
    rw (c.outline_of-rectangle.ensures, c.moved_stretch.ensures)
    (drawn_at run.by run.brush run.pair run.offsets run.is_fixed (segments_in run.path.value.items) c.args.j c.stretch_at-stretch.result at)
