use Rattle.std.proofs.Common.{◌<◌, arith, sym, ◌∙◌}
use Rattle.oas_record.proofs.DecodedLemmas.{numbers_off, numbers_left, numbers_stand}
use Rattle.oas_record.proofs.items.Numbers.next.Goals as goal

pub invariant_of-self : goal.invariant_of-self
invariant_of-self c =
    let some : 0 < c.self.inside.count = omega arith in
    (c.self.invariant.0, numbers_left _ _ _ _ _ _ some c.self.invariant.1 c.in-Ok.ensures.ok c.in-Ok.ensures.within)

pub returns-in-Ok : goal.returns-in-Ok
returns-in-Ok c =
    let some : 0 < c.self.inside.count = omega arith in
    sym c.self.view_is ∙ numbers_off _ _ _ _ _ some c.in-Ok.ensures.ok

pub returns-in-Err : goal.returns-in-Err
returns-in-Err c =
    let some : 0 < c.self.inside.count = omega arith in
    absurd (numbers_stand _ _ _ _ _ some c.self.invariant.1 c.in-Err.ensures.bad)
