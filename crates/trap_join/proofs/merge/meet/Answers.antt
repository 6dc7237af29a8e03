use Rattle.std.proofs.Common.{◌≡◌, pos, ◌-ℤ◌, false, arith, sym, ap, of_z, ◌∙◌, w64, FitsSigned}
use Rattle.std.proofs.lemmas.Int.{ints, to_z-of_z}
use Rattle.half_grid.proofs.ForCallers.{legal_places}
use Rattle.trap_join.specs.Fronts.{goes_on, ended_at}
use Rattle.trap_join.proofs.XOrder.{ends_left, begins_left, ends_in_point, begins_at}
use Rattle.trap_join.proofs.merge.meet.Goals as goal

pub returns-then-end-start : goal.returns-then-end-start
returns-then-end-start c =
    let y : FitsSigned w64 c.args.y = c.ranges.y in
    let differ : goes_on c.args.growing.now c.args.run.now ≡ false = sym c.goes_on.ensures ∙ c.if-goes_on.false in
    let end = simp to_z-of_z at c.x_at-end.ensures in
    let start = simp to_z-of_z at c.x_at-start.ensures in
    let had = legal_places (ended_at c.args.y c.args.growing.now) (c.args.y -ℤ pos 1) c.requires.growing.legal
    (let r = c.requires.growing.legal.has_rows in omega (arith, ints, r)) (omega (arith, ints)) in
    ends_left c.args.y c.args.growing.now c.args.run.now differ c.requires.has_tile had (omega (arith, ints))

pub returns-then-start-end : goal.returns-then-start-end
returns-then-start-end c =
    let y : FitsSigned w64 c.args.y = c.ranges.y in
    let differ : goes_on c.args.growing.now c.args.run.now ≡ false = sym c.goes_on.ensures ∙ c.if-goes_on.false in
    let end = simp to_z-of_z at c.x_at-end.ensures in
    let start = simp to_z-of_z at c.x_at-start.ensures in
    let had = legal_places (ended_at c.args.y c.args.growing.now) (c.args.y -ℤ pos 1) c.requires.growing.legal
    (let r = c.requires.growing.legal.has_rows in omega (arith, ints, r)) (omega (arith, ints)) in
    begins_left c.args.y c.args.growing.now c.args.run.now differ c.requires.has_tile had (omega (arith, ints))

pub returns-then-x_at-end : goal.returns-then-x_at-end
returns-then-x_at-end c =
    let y : FitsSigned w64 c.args.y = c.ranges.y in
    let differ : goes_on c.args.growing.now c.args.run.now ≡ false = sym c.goes_on.ensures ∙ c.if-goes_on.false in
    let end = simp to_z-of_z at c.x_at-end.ensures in
    let right = simp to_z-of_z at c.x_at.ensures in
    let had = legal_places (ended_at c.args.y c.args.growing.now) (c.args.y -ℤ pos 1) c.requires.growing.legal
    (let r = c.requires.growing.legal.has_rows in omega (arith, ints, r)) (omega (arith, ints)) in
    ends_in_point c.args.y c.args.growing.now c.args.run.now differ c.requires.has_tile had (omega (arith, ints))

pub returns : goal.returns
returns c =
    let y : FitsSigned w64 c.args.y = c.ranges.y in
    let differ : goes_on c.args.growing.now c.args.run.now ≡ false = sym c.goes_on.ensures ∙ c.if-goes_on.false in
    let end = simp to_z-of_z at c.x_at-end.ensures in
    let start = simp to_z-of_z at c.x_at-start.ensures in
    let right = simp to_z-of_z at c.x_at.ensures in
    let had = legal_places (ended_at c.args.y c.args.growing.now) (c.args.y -ℤ pos 1) c.requires.growing.legal
    (let r = c.requires.growing.legal.has_rows in omega (arith, ints, r)) (omega (arith, ints)) in
    begins_at c.args.y c.args.growing.now c.args.run.now differ c.requires.has_tile had (omega (arith, ints))
    (λ e. c.if-x_at-end.false (let p : c.x_at.result ≡ c.x_at-end.result = omega (arith, ints) in ap (of_z w64) p))
