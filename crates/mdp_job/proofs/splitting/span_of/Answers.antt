use Rattle.std.proofs.Common.{FitsSigned, w64, rules, arith, ◌-ℤ◌, ◌<ℤ◌, pos}
use Rattle.std.proofs.lemmas.Int.{ints, to_z-of_z}
use Rattle.mdp_job.proofs.splitting.span_of.Goals as goal

pub returns-clause-span : goal.returns-clause-span
returns-clause-span c =
    let f : FitsSigned w64 c.in-Some-stripes.first = search rules in
    let l : FitsSigned w64 c.in-Some-stripes.last = search rules in
    let number = simp to_z-of_z at c.number_of_stripes-number.ensures in
    let few : (c.in-Some-stripes.last -ℤ c.in-Some-stripes.first) <ℤ pos 4096 = omega (arith, ints, number, c.if-number-gt-MOST_STRIPES.false) in
    rw (to_z-of_z w64 c.in-Some-stripes.first f, to_z-of_z w64 c.in-Some-stripes.last l) (c.in-Some-stripes.ensures.some, few)
