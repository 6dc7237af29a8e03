use Rattle.std.proofs.Common.{pos, slice_index_or}
use Rattle.std.proofs.lemmas.Option.{slice_get-get_or}
use Rattle.layout_model.specs.declared.stretches.Segment.{Segment}
use Rattle.layout_model.proofs.SegmentListLemmas.{stretch_in}
use Rattle.layout_model.proofs.shared_paths.stretch_at.Goals as goal

abbrev none : Segment
none = record { from = record { x = pos 0; y = pos 0 }; to = record { x = pos 0; y = pos 0 } }

pub returns : goal.returns
returns c =
    let items = c.args.segments.now in let told = c.stretch.ensures in
    stretch_in c.args.brush items c.args.k (slice_index_or items c.args.k none) c.stretch.result (slice_get-get_or items c.args.k none c.requires.inside)
    told.from told.to told.half told.first told.later told.last told.earlier
