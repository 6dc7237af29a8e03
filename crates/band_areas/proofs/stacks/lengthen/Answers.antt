use Rattle.std.proofs.Common.{rules, length, ◌<◌, ◌≡◌, ◌∙◌, ℕ, suc, ◌+◌, List, [], ◌∷◌, ◌++◌, set, take, slice_index_or, sym, ap, arith}
use Rattle.std.proofs.lemmas.List.{take_all}
use Rattle.half_grid.specs.Trapezoids.{Trapezoid}
use Rattle.deck_plan.specs.Stacks.{lengthened}
use Rattle.band_areas.specs.Growing.{going_on}
use Rattle.band_areas.proofs.GrowingLemmas.{changed_up_to, changed_none, changed_all, changed_at, changed_next, take_next}
use Rattle.band_areas.proofs.stacks.lengthen.Goals as goal

pub loop-n-init : goal.loop-n-init
loop-n-init c = record { list = sym (changed_none (lengthened c.args.growing.now) c.args.strip.now.items); marks = c.requires.none }

-- the list is as long as it was
long : (c : goal.After-loop-n) → c.len-n-end.result ≡ length c.args.strip.now.items
long c = search rules

-- the next of the list, as it was
next_was : (c : goal.After-strip-1) → c.index.result.now ≡ slice_index_or c.args.strip.now.items c.loop-n.n c.index.result.now
next_was c =
    c.index.ensures
    ∙ ap (λ (zs : List Trapezoid). slice_index_or zs c.loop-n.n c.index.result.now) c.loop-n.invariant.list
    ∙ changed_at (lengthened c.args.growing.now) c.loop-n.n c.args.strip.now.items c.index.result.now

next_inside : (c : goal.After-strip-1) → c.loop-n.n < length c.args.strip.now.items
next_inside c =
    let same : c.len-n-end.result ≡ length c.args.strip.now.items = search rules in
    omega (arith, same, c.loop-n-test.true)

pub loop-n-preserved : goal.loop-n-preserved
loop-n-preserved c =
    let growing = c.args.growing.now in
    let f = lengthened growing in
    let old = c.args.strip.now.items in
    let n = c.loop-n.n in
    let d = c.index.result.now in
    let inside = next_inside c in
    let up : suc n ≡ n + 1 = omega arith in
    record {
      list = ap (λ (zs : List Trapezoid). set zs n c.lengthened.result) c.loop-n.invariant.list
          ∙ ap (λ (z : Trapezoid). set (changed_up_to f n old) n z) (c.lengthened.ensures.is ∙ ap f (next_was c))
          ∙ changed_next f n old d inside ∙ ap (λ (k : ℕ). changed_up_to f k old) up;
      marks = c.lengthened.ensures.marks (take n old) c.loop-n.invariant.marks
          ∙ ap (going_on growing) (ap (λ (z : Trapezoid). take n old ++ z ∷ []) (next_was c) ∙ take_next n old d inside ∙ ap (λ (k : ℕ). take k old) up);
    }

pub returns-clause-list : goal.returns-clause-list
returns-clause-list c =
    let end_of = long c in
    c.loop-n.invariant.list ∙ changed_all (lengthened c.args.growing.now) c.loop-n.n c.args.strip.now.items (omega (arith, end_of, c.loop-n-test.false))

pub returns-clause-marks : goal.returns-clause-marks
returns-clause-marks c =
    let end_of = long c in
    c.loop-n.invariant.marks ∙ ap (going_on c.args.growing.now) (take_all c.loop-n.n c.args.strip.now.items (omega (arith, end_of, c.loop-n-test.false)))
