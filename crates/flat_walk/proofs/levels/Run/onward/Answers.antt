use Rattle.std.proofs.Common.{arith}
use Rattle.std.proofs.lemmas.Option.{slice_get_within}
use Rattle.layout_model.specs.Layouts.{IsMove}
use Rattle.flat_walk.proofs.RestLemmas.{slot_all}
use Rattle.flat_walk.proofs.levels.Run.onward.Goals as goal

pub places_in-wanted-requires-clause-rows : goal.places_in-wanted-requires-clause-rows
places_in-wanted-requires-clause-rows c = let r = c.requires.rows in record { low_near = r.x_low; low_far = r.x_high; high_near = r.y_low; high_far = r.y_high }

pub returns-in-Some-clause-inside : goal.returns-in-Some-clause-inside
returns-in-Some-clause-inside c = let h =
    slice_get_within c.args.self.now.placement.now.offsets c.in-Some.place c.in-Some.ensures.place
    c.in-Some.ensures.here in omega (arith, h)

pub returns-in-Some-clause-none : goal.returns-in-Some-clause-none
returns-in-Some-clause-none c = λ k by after before here.
    let near = (slot_all IsMove c.args.self.now.placement.now.offsets k by c.requires.grid.offsets.moves here).near in
    c.places_in-wanted.ensures by near (c.in-Some.ensures.none k by (omega arith) before here)

pub returns-in-None-clause-none : goal.returns-in-None-clause-none
returns-in-None-clause-none c = λ k by after before here.
    let near = (slot_all IsMove c.args.self.now.placement.now.offsets k by c.requires.grid.offsets.moves here).near in
    let count = c.count-count.ensures in
    c.places_in-wanted.ensures by near (c.in-None.ensures k by (omega arith) (omega (arith, before, count)) here)
