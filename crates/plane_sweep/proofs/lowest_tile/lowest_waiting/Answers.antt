use Rattle.std.proofs.Common.{◌∷◌, ◌++◌, [], List, ap, sym, subst, ◌∙◌, append-nil}
use Rattle.half_grid.specs.Trapezoids.{Trapezoid}
use Rattle.plane_sweep.specs.Lowest.{IsFirstOfAll}
use Rattle.plane_sweep.proofs.LowestLemmas.{further}
use Rattle.plane_sweep.proofs.LowestSoFar.{moved_on}
use Rattle.plane_sweep.proofs.SweptParts.{nothing_waits}
use Rattle.plane_sweep.proofs.lowest_tile.lowest_waiting.Goals as goal

pub loop-trap-preserved : goal.loop-trap-preserved
loop-trap-preserved c =
    let k = c.loop-trap.invariant in
    let low = c.lower.ensures in (
      k.0 ++ c.in-Some.trap ∷ [],
      k.1 ∙ moved_on k.0 c.loop-trap.waiting.items c.pop_front.new.self.items c.in-Some.trap c.in-Some.ensures.items,
      further k.0 c.in-Some.trap c.loop-trap.found c.lower.result (rw c.first_spot.ensures at low.either) (rw c.first_spot.ensures at low.new) low.old k.2,
    )

pub returns-clause-lowest : goal.returns-clause-lowest
returns-clause-lowest c =
    let k = c.loop-trap.invariant in
    let none = nothing_waits c.loop-trap.waiting.items c.pop_front.new.self.items c.in_default.ensures.items c.in_default.ensures.rest in
    let all = k.1 ∙ (ap (λ (zs : List Trapezoid). k.0 ++ zs) (c.in_default.ensures.items ∙ none) ∙ append-nil k.0) in
    subst (λ (zs : List Trapezoid). IsFirstOfAll zs c.loop-trap.found) (sym all) k.2

pub returns-clause-none : goal.returns-clause-none
returns-clause-none c = nothing_waits c.loop-trap.waiting.items c.pop_front.new.self.items c.in_default.ensures.items c.in_default.ensures.rest
