use Rattle.std.proofs.Common.{◌≡◌, false, arith, subst}
use Rattle.std.proofs.lemmas.Option.{slice_get_within}
use Rattle.layout_model.specs.Layouts.{IsMove}
use Rattle.layout_model.specs.Images.{image_of}
use Rattle.layout_model.specs.ShapeLists.{shape_in}
use Rattle.flat_walk.specs.Rises.{meets_at}
use Rattle.flat_walk.proofs.RestLemmas.{slot_all}
use Rattle.flat_walk.proofs.BoxLemmas.{moved_by_none}
use Rattle.flat_walk.proofs.owned.Cursor.onward.Goals as goal

pub places_in-wanted-requires-clause-rows : goal.places_in-wanted-requires-clause-rows
places_in-wanted-requires-clause-rows c = let r = c.requires.rows in record { low_near = r.x_low; low_far = r.x_high; high_near = r.y_low; high_far = r.y_high }

pub returns-in-Some-clause-inside : goal.returns-in-Some-clause-inside
returns-in-Some-clause-inside c = let h =
    slice_get_within (shape_in c.args.shape).offsets c.in-Some.place c.in-Some.ensures.place c.in-Some.ensures.here in omega
    (arith, h)

pub returns-in-Some-clause-none : goal.returns-in-Some-clause-none
returns-in-Some-clause-none c = λ k by after before here.
    let near = (slot_all IsMove (shape_in c.args.shape).offsets k by c.requires.grid.offsets.moves here).near in
    subst (λ p. meets_at c.args.window c.args.rows (image_of c.args.self.now.orient c.args.self.now.at p).y ≡ false)
    (moved_by_none by) (c.places_in-wanted.ensures by near (c.in-Some.ensures.none k by after before here))

pub returns-in-None-clause-none : goal.returns-in-None-clause-none
returns-in-None-clause-none c = λ k by after before here.
    let near = (slot_all IsMove (shape_in c.args.shape).offsets k by c.requires.grid.offsets.moves here).near in
    let count = c.count-count.ensures in
    subst (λ p. meets_at c.args.window c.args.rows (image_of c.args.self.now.orient c.args.self.now.at p).y ≡ false)
    (moved_by_none by) (c.places_in-wanted.ensures by near
    (c.in-None.ensures k by after (omega (arith, before, count)) here))
