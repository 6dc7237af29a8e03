use Rattle.std.proofs.Common.{ℤ, Bool, List, [], arith, refl, sym, subst, ◌∙◌, append-nil}
use Rattle.std.proofs.lemmas.Int.{ints}
use Rattle.half_grid.specs.Trapezoids.{Trapezoid}
use Rattle.half_grid.specs.Windows.{RowRange}
use Rattle.trap_join.specs.Joins.{IsTakenIn}
use Rattle.plane_sweep.specs.Lowest.{IsFirstOfAll, IsSpotIn}
use Rattle.plane_sweep.proofs.LowestSoFar.{spot_of_all}
use Rattle.plane_sweep.proofs.lowest_tile.lowest_spot.Goals as goal

pub returns-then-not-branch : goal.returns-then-not-branch
returns-then-not-branch g c = λ edges come.
    let post : ℤ → ℤ → Bool → Type 0 = λ a b r. g.F.Fn.post c.args.rule.now (a, (b, tt)) r in
    let p = c.look_at-look.new.progress in
    let waiting = p.front.waiting.items in
    let here = rw c.in_default.is at (c.look_at-look.ensures.none edges (c.loop-spot.invariant.come edges come)) in
    let whole = c.in_ok-advance.ensures.whole edges [] here c.if-not-branch.true in
    let same = c.in_ok-advance.ensures.same c.if-not-branch.true ∙ sym (append-nil waiting) in
    let found = subst (λ (zs : List Trapezoid). IsFirstOfAll zs c.lowest_waiting.result) same c.lowest_waiting.ensures.lowest in
    subst (λ (w : RowRange). IsSpotIn (IsTakenIn post edges w) c.lowest_waiting.result) (c.look_at-look.ensures.window ∙ c.loop-spot.invariant.window)
    (spot_of_all post edges p.window p.window.y1 waiting [] (omega (arith, ints)) whole refl c.lowest_waiting.result found)

pub loop-spot-preserved : goal.loop-spot-preserved
loop-spot-preserved g c = record {
  come = λ edges come.
      (let here = rw c.in_default.is at (c.look_at-look.ensures.none edges (c.loop-spot.invariant.come edges come)) in
      c.in_ok-advance.ensures.given edges [] here);
  window = c.in_ok-advance.ensures.window ∙ (c.look_at-look.ensures.window ∙ c.loop-spot.invariant.window);
}
