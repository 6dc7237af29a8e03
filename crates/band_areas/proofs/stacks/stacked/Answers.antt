use Rattle.std.proofs.Common.{rules, ◌≡◌, ◌∙◌, false, length, replicate, sym, subst}
use Rattle.band_areas.specs.Growing.{TopsAscend}
use Rattle.band_areas.proofs.GrowingLemmas.{going_nowhere, tops_lengthened}
use Rattle.band_areas.proofs.stacks.stacked.Goals as goal

pub lengthen-requires-clause-none : goal.lengthen-requires-clause-none
lengthen-requires-clause-none c =
    let none : c.as_mut_slice.result.now ≡ replicate (length c.args.growing.now) false = search rules in
    none ∙ going_nowhere c.args.growing.now

pub taken_off-requires : goal.taken_off-requires
taken_off-requires c =
    subst TopsAscend (sym c.lengthen.ensures.list) (tops_lengthened c.args.growing.now c.args.strip.items c.requires.ascend)
