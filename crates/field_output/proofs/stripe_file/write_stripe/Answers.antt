use Rattle.std.proofs.Common.{◌≡◌, ◌<◌, ◌≤◌, ◌^◌, ℕ, List, IfOk, ap, subst, refl, arith, FitsSigned, w64}
use Rattle.std.proofs.lemmas.Int.{to_z-of_z}
use Rattle.half_grid.specs.Trapezoids.{Trapezoid}
use Rattle.depot.specs.Doing.{Makes}
use Rattle.shot_writer.specs.Writing.{triangles_of}
use Rattle.field_output.specs.Stripes.{stripe_text, sums_of}
use Rattle.field_output.specs.StreamLaws.{Chosen-one_list}
use Rattle.field_output.proofs.FileLemmas.{is_list, triangles_few}
use Rattle.field_output.proofs.stripe_file.write_stripe.Goals as goal

few : (a b : ℕ) → b ≡ a → a ≤ 2 ^ 103 → b < 2 ^ 127
few a b e h = omega (arith, e, h)

pub write_list-requires-clause-list : goal.write_list-requires-clause-list
write_list-requires-clause-list g c =
    let stripe : FitsSigned w64 c.args.stripe = c.ranges.stripe in
    let own = c.requires.chosen in
    let size = c.args.fields.now in
    let list = c.new-pieces.ensures.list own.0 (c.new.ensures own.0 own.1) in
    let split = simp to_z-of_z at list.1 in (
      list.0,
      list.2,
      few _ _ (ap triangles_of (is_list size c.args.stripe own.0 own.0 list.0 c.requires.sized refl own.2 split))
          (triangles_few size c.args.stripe c.requires.sized own.0 own.2 own.3),
    )

pub returns-clause-content : goal.returns-clause-content
returns-clause-content g c = λ chosen zip.
    let stripe : FitsSigned w64 c.args.stripe = c.ranges.stripe in
    let own = c.requires.chosen in
    let list = c.new-pieces.ensures.list chosen (c.new.ensures chosen zip) in
    let split = simp to_z-of_z at list.1 in
    let same = Chosen-one_list c.args.shots.now c.args.numbers.now own.0 chosen own.1 zip in
    let at = g.D.Depot.content in
    subst (λ (l : List Trapezoid). Makes g.D.Depot.tells (at c.args.depot.now) (at c.write_list.new.depot) c.args.name.now
    (stripe_text c.args.head l) c.write_list.result)
    (is_list c.args.fields.now c.args.stripe chosen own.0 list.0 c.requires.sized same own.2 split)
    (c.write_list.ensures.content list.0 list.2)

pub returns-clause-sums : goal.returns-clause-sums
returns-clause-sums g c = λ chosen zip.
    let stripe : FitsSigned w64 c.args.stripe = c.ranges.stripe in
    let own = c.requires.chosen in
    let list = c.new-pieces.ensures.list chosen (c.new.ensures chosen zip) in
    let split = simp to_z-of_z at list.1 in
    let same = Chosen-one_list c.args.shots.now c.args.numbers.now own.0 chosen own.1 zip in
    subst (λ (l : List Trapezoid). IfOk c.write_list.result (λ sums. sums ≡ sums_of l))
    (is_list c.args.fields.now c.args.stripe chosen own.0 list.0 c.requires.sized same own.2 split) (c.write_list.ensures.sums list.0 list.2)
