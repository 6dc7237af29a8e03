use Rattle.std.proofs.lemmas.List.{nil_from_length}
use Rattle.plane_sweep.proofs.BundleLemmas.{some_begin, some_more, some_end}
use Rattle.plane_sweep.proofs.bundle.bundle_of.Goals as goal

pub loop-line-init : goal.loop-line-init
loop-line-init c = some_begin c.args.below c.args.lines.now c.empty-bundle.result c.empty-bundle.ensures

pub loop-line-preserved : goal.loop-line-preserved
loop-line-preserved c =
    some_more c.args.below c.args.lines.now c.loop-line.left.now c.in-Some.line.now c.in-Some.rest.now
    c.loop-line.bundle c.in_ok-bundle.bundle c.loop-line.windings c.in_ok-difference.field-0
    c.loop-line.invariant c.in-Some.ensures.cases.0 c.in_ok-difference.ensures c.in_ok-bundle.ensures

pub returns : goal.returns
returns c = some_end c.args.below c.args.lines.now c.loop-line.left.now c.loop-line.bundle c.loop-line.windings
    c.loop-line.invariant (nil_from_length c.loop-line.left.now c.in_default.ensures.cases)
