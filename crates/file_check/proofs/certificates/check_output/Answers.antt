use Rattle.file_check.proofs.Certifying.{just_this, none_too_large}
use Rattle.file_check.proofs.certificates.check_output.Goals as goal

pub returns-in-Some-2-clause-miscovered : goal.returns-in-Some-2-clause-miscovered
returns-in-Some-2-clause-miscovered g c =
    let fault = rw c.in-Some-2.is at c.in_ok-fault_of_output.ensures.fault in
    let fit = rw c.deck.ensures.value at c.in_default.ensures.none in
    just_this c.args.plan.now c.args.output c.args.shots.now c.in-Some-2.fault.tile c.in-Some-2.fault.count
    c.in-Some-2.fault.wanted (record { fit = fit; fault = fault })

pub returns-in-Some-2-clause-too_large : goal.returns-in-Some-2-clause-too_large
returns-in-Some-2-clause-too_large g c =
    let fault = rw c.in-Some-2.is at c.in_ok-fault_of_output.ensures.fault in
    let fit = rw c.deck.ensures.value at c.in_default.ensures.none in
    none_too_large c.args.plan.now c.args.output c.args.shots.now c.in-Some-2.fault.tile c.in-Some-2.fault.count
    c.in-Some-2.fault.wanted (record { fit = fit; fault = fault })
