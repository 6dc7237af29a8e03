use Rattle.std.proofs.Common.{◌≡◌, true, false, refl, subst, sym, arith, w64}
use Rattle.std.proofs.lemmas.Int.{to_z-of_z}
use Rattle.half_grid.specs.Reach.{IsWithinReach}
use Rattle.layout_model.specs.Intervals.{IsBetween}
use Rattle.layout_model.specs.Strides.{after_steps}
use Rattle.layout_model.proofs.StrideLemmas.{entered, missed, reach_fits}
use Rattle.layout_model.proofs.strides.Stride.first_in.Goals as goal

pub returns-then-n-count : goal.returns-then-n-count
returns-then-n-count c =
    let m = c.max-n.ensures in
    let past = c.if-n-count.true in
    missed c.args.interval (after_steps c.args.self) c.args.from c.entry.result c.args.count c.max-n.result
    (omega (arith, m)) c.entry.ensures.early (λ k after before between. absurd (omega (arith, past)))

pub returns-then-spans : goal.returns-then-spans
returns-then-spans c =
    let m = c.max-n.ensures in
    let inside = c.if-n-count.false in
    let fits = reach_fits c.at.result (subst IsWithinReach (sym c.at.ensures) (c.requires.stride.reach c.max-n.result (omega (arith, inside)))) in
    entered c.args.interval (after_steps c.args.self) c.args.from c.entry.result c.args.count c.max-n.result
    (omega (arith, m)) (omega (arith, m)) (omega (arith, inside)) c.entry.ensures.early
    (subst (IsBetween c.args.interval.low c.args.interval.high) c.at.ensures
    (subst (IsBetween c.args.interval.low c.args.interval.high) (to_z-of_z w64 c.at.result fits)
    (c.if-spans.ensures.0 refl)))

no : false ≡ true → ⊥
no e = cc

pub returns : goal.returns
returns c =
    let m = c.max-n.ensures in
    let f = after_steps c.args.self in
    let inside = c.if-n-count.false in
    let fits = reach_fits c.at.result (subst IsWithinReach (sym c.at.ensures) (c.requires.stride.reach c.max-n.result (omega (arith, inside)))) in
    missed c.args.interval f c.args.from c.entry.result c.args.count c.max-n.result (omega (arith, m)) c.entry.ensures.early
    (λ k after before between. no
    (c.if-spans.ensures.1
    (subst (IsBetween c.args.interval.low c.args.interval.high) (sym (to_z-of_z w64 c.at.result fits))
    (subst (IsBetween c.args.interval.low c.args.interval.high) (sym c.at.ensures)
    (c.entry.ensures.onward c.max-n.result k (omega (arith, m)) after between)))))
