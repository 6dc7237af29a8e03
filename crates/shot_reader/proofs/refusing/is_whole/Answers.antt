use Rattle.std.proofs.Common.{arith}
use Rattle.shot_reader.proofs.Ends.{ends_is, le_by, le_true, whole_if, whole_shown, some_one, Shown}
use Rattle.shot_reader.proofs.refusing.is_whole.Goals as goal

pub returns-in-Some-clause-yes : goal.returns-in-Some-clause-yes
returns-in-Some-clause-yes c = λ yes.
    whole_if c.args.rest.now c.in-Some.count (omega arith) (omega arith) c.in-Some.ensures.some
    (le_by c.in-Some.count c.ends_in.result _ (ends_is c.args.rest.now c.ends_in.result c.ends_in.ensures) yes)

pub returns-in-Some-clause-all : goal.returns-in-Some-clause-all
returns-in-Some-clause-all c = λ w.
    let s : Shown c.args.rest.now = whole_shown c.args.rest.now w in
    le_true c.in-Some.count s.count c.ends_in.result _
    (some_one c.in-Some.count s.count (c.in-Some.ensures.all s.count s.has))
    (ends_is c.args.rest.now c.ends_in.result c.ends_in.ensures) s.enough

pub returns-in-None-clause-all : goal.returns-in-None-clause-all
returns-in-None-clause-all c = λ w.
    let s : Shown c.args.rest.now = whole_shown c.args.rest.now w in
    let found = c.in-None.ensures.all s.count s.has in
    absurd (cc)
