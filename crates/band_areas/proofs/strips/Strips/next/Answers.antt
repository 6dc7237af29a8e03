use Rattle.std.proofs.Common.{rules, ◌≡◌, ◌≤ℤ◌, length}
use Rattle.band_areas.proofs.StripLemmas.{empty_list, all_given_of}
use Rattle.band_areas.proofs.strips.Strips.next.Goals as goal

pub returns-then-y1-self-clause-all : goal.returns-then-y1-self-clause-all
returns-then-y1-self-clause-all c = λ given has _.
    let none : length c.args.self.now.waiting.items ≡ 0 = search rules in
    let end_of = c.y1.ensures.value in
    let last : c.args.self.now.band.y1 ≤ℤ c.args.self.now.next.y = search rules in
    all_given_of c.args.plan.now c.args.output c.args.self.now given has (empty_list c.args.self.now.waiting.items none) last

pub returns-in_err-ended-clause-areas : goal.returns-in_err-ended-clause-areas
returns-in_err-ended-clause-areas c = c.adapt.ensures c.args.plan.now c.args.output c.area.ensures.areas

pub returns-clause-areas : goal.returns-clause-areas
returns-clause-areas c = c.adapt.ensures c.args.plan.now c.args.output c.area.ensures.areas
