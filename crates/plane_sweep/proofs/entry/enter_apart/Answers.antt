use Rattle.std.proofs.Common.{◌≡◌, true, false, rules, FitsSigned, w64}
use Rattle.std.proofs.lemmas.Int.{to_z-of_z}
use Rattle.plane_sweep.proofs.AlikeRuns.{alike_self}
use Rattle.plane_sweep.proofs.EnterSteps.{apart_outside, apart_over, apart_ended, maybe_alike}
use Rattle.plane_sweep.proofs.entry.enter_apart.Goals as goal

pub returns-then-not-inside-clause-enters : goal.returns-then-not-inside-clause-enters
returns-then-not-inside-clause-enters c =
    let out : c.args.inside ≡ false = search rules in
    rw c.beyond_of-beyond.ensures (apart_outside c.args.level.y c.args.inside c.args.apart c.args.below c.args.above c.args.lines.now.before out)

pub returns-then-not-inside-clause-alike : goal.returns-then-not-inside-clause-alike
returns-then-not-inside-clause-alike c = alike_self c.args.lines.now.before

pub returns-in_default-clause-enters : goal.returns-in_default-clause-enters
returns-in_default-clause-enters c =
    let is : c.args.inside ≡ true = search rules in
    rw c.beyond_of-beyond.ensures (apart_over c.args.level.y c.args.inside c.args.apart c.args.below c.args.above c.args.lines.now.before is c.in_default.is)

pub returns-in_default-clause-alike : goal.returns-in_default-clause-alike
returns-in_default-clause-alike c = alike_self c.args.lines.now.before

pub returns-clause-enters : goal.returns-clause-enters
returns-clause-enters c =
    let short : FitsSigned w64 c.args.level.y = search rules in
    let is : c.args.inside ≡ true = search rules in
    let again = simp to_z-of_z at c.reopen-was.ensures.some in
    rw c.beyond_of-beyond.ensures (apart_ended c.args.level.y c.args.inside c.args.apart c.args.below c.args.above c.args.lines.now.before
    c.reopen-was.new.self.before c.in-Some.right c.reopen-was.result is c.in-Some.is again c.reopen-was.ensures.none)

pub returns-clause-alike : goal.returns-clause-alike
returns-clause-alike c = maybe_alike _ _ _ c.reopen-was.result c.reopen-was.ensures.some c.reopen-was.ensures.same
