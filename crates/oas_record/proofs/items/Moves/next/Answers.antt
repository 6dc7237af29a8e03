use Rattle.std.proofs.Common.{◌<◌, arith, sym, ◌∙◌}
use Rattle.oas_record.proofs.DecodedLemmas.{deltas_off, deltas_left, deltas_stand}
use Rattle.oas_record.proofs.items.Moves.next.Goals as goal

pub invariant_of-self : goal.invariant_of-self
invariant_of-self c =
    let some : 0 < c.self.inside.count = omega arith in
    rw c.turned-self-inside.ensures (c.self.invariant.0, deltas_left _ _ _ _ _ _ _ some c.self.invariant.1 c.in-Ok.ensures.ok c.in-Ok.ensures.within)

pub returns-in-Ok : goal.returns-in-Ok
returns-in-Ok c =
    let some : 0 < c.self.inside.count = omega arith in
    rw c.turned-self-inside.ensures (sym c.self.view_is ∙ deltas_off _ _ _ _ _ _ some c.in-Ok.ensures.ok)

pub returns-in-Err : goal.returns-in-Err
returns-in-Err c =
    let some : 0 < c.self.inside.count = omega arith in
    absurd (deltas_stand _ _ _ _ _ _ some c.self.invariant.1 c.in-Err.ensures.bad)
