use Rattle.std.proofs.Common.{◌+◌, ℤ, ◌*ℤ◌, ◌≤ℤ◌, take, sym, subst, ◌∙◌, arith}
use Rattle.std.proofs.lemmas.Int.{ints}
use Rattle.std.specs.List.{All}
use Rattle.half_grid.specs.JoinedLists.{IsInWindow}
use Rattle.half_grid.specs.Trapezoids.{Trapezoid}
use Rattle.density_map.specs.Windows.{IsWindowSize}
use Rattle.density_report.specs.Rows.{rows_of}
use Rattle.density_report.proofs.AreaLemmas.{first_below}
use Rattle.density_report.proofs.areas.first_of.Goals as goal

pub lower_of-first-requires : goal.lower_of-first-requires
lower_of-first-requires c = subst (λ (s : ℤ). IsWindowSize s) (sym c.loop-trap.invariant.size) c.requires.batch.size

pub loop-trap-preserved : goal.loop-trap-preserved
loop-trap-preserved c =
    let l = c.loop-trap in
    let batch = c.args.batch.now in
    let z = c.trap-item.result in
    let e = c.lower_of-first.ensures in
    let window = subst (λ (x : Trapezoid). IsInWindow (rows_of batch) x) (sym c.trap-item.is) (c.requires.inside l.trap-index z c.loop-trap-test.true) in
    let size = e.size ∙ l.invariant.size in
    let bottom : (batch.row *ℤ l.first.size) ≤ℤ z.y0 = subst (λ (s : ℤ). (batch.row *ℤ s) ≤ℤ z.y0) (sym l.invariant.size) window.low in
    let up_to = l.invariant.up_to in
    let lower = e.no_higher in
    let below = subst (λ (s : ℤ). (c.lower_of-first.result.row *ℤ s) ≤ℤ z.y0) e.size e.below in
    record {
      size = size;
      from = e.greatest batch.row l.invariant.from bottom;
      up_to = omega (arith, ints, lower, up_to);
      below = subst (λ (s : ℤ). All (λ (x : Trapezoid). (c.lower_of-first.result.row *ℤ s) ≤ℤ x.y0) (take (l.trap-index + 1) c.args.traps.now)) (sym e.size)
          (first_below c.args.traps.now l.trap-index z l.first.row c.lower_of-first.result.row l.first.size
          (subst (λ (s : ℤ). IsWindowSize s) (sym l.invariant.size) c.requires.batch.size)
          c.loop-trap-test.true c.trap-item.is lower below l.invariant.below);
    }
