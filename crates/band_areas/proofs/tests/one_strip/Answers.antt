use Rattle.std.proofs.Common.{[], ◌++◌, IfOk, subst}
use Rattle.deck_plan.specs.Needs.{IsAskedBand}
use Rattle.band_areas.specs.Strips.{HasGiven, given_by}
use Rattle.band_areas.proofs.tests.one_strip.Goals as goal

pub next-requires-clause-begun : goal.next-requires-clause-begun
next-requires-clause-begun g c = ([], c.new-strips.ensures.given c.expect-plan.result 0)

pub next-requires-2-clause-begun : goal.next-requires-2-clause-begun
next-requires-2-clause-begun g c =
    let plan = c.expect-plan.result in
    let first = c.next.ensures.given [] (c.new-strips.ensures.given plan 0) in
    ([] ++ given_by c.expect-ended.result, subst (λ r. IfOk r (λ next. HasGiven plan 0 c.next.new.self ([] ++ given_by next))) c.expect-ended.ensures first)

pub next-requires-3-clause-begun : goal.next-requires-3-clause-begun
next-requires-3-clause-begun g c =
    let plan = c.expect-plan.result in
    let first = c.next.ensures.given [] (c.new-strips.ensures.given plan 0) in
    let given = [] ++ given_by c.expect-ended.result in
    let then = subst (λ r. IfOk r (λ next. HasGiven plan 0 c.next.new.self ([] ++ given_by next))) c.expect-ended.ensures first in
    let second = c.next-2.ensures.given given then in
    let all = subst (λ r. IfOk r (λ next. HasGiven plan 0 c.next-2.new.self (given ++ given_by next))) c.expect-list.ensures second in
    (given ++ given_by c.expect-list.result, all)

pub next_part-requires-clause-left : goal.next_part-requires-clause-left
next_part-requires-clause-left g c = subst IsAskedBand c.new-strips.ensures.band (c.new-strips.ensures.given c.expect-plan.result 0).band
