use Rattle.std.proofs.Common.{IfSome, IfNone}
use Rattle.std.proofs.lemmas.Result.{IfOk-weaker}
use Rattle.std.proofs.lemmas.Option.{IfSome_then}
use Rattle.shot_checker.specs.Verdicts.{IsFirstWrongTileInRows, CoversAlike}
use Rattle.file_check.proofs.FaultLemmas.{fault_of_all, alike_for_all, none_weaker, always_ok}
use Rattle.file_check.proofs.front.fault_in.Goals as goal

pub returns-clause-front : goal.returns-clause-front
returns-clause-front c = λ shots at. always_ok c.first_fault.result (c.in_ok-go_on.ensures.front shots at)

pub returns-clause-fault : goal.returns-clause-fault
returns-clause-fault c = λ shots at.
    let same = c.in_ok-go_on.ensures.counts shots at in
    IfOk-weaker c.first_fault.result _ (λ answer. IfSome answer (λ fault. IsFirstWrongTileInRows shots c.args.area.now c.args.window fault.tile fault.count fault.wanted))
    (λ answer h. IfSome_then answer h (λ fault. fault_of_all shots _ c.args.area.now c.args.window same fault.tile fault.count fault.wanted))
    (rw c.as_slice.ensures.value at c.first_fault.ensures.fault)

pub returns-clause-none : goal.returns-clause-none
returns-clause-none c = λ shots at.
    let same = c.in_ok-go_on.ensures.counts shots at in
    IfOk-weaker c.first_fault.result _ (λ answer. IfNone answer (CoversAlike shots c.args.area.now c.args.window))
    (λ answer. none_weaker answer (alike_for_all shots c.go_on.new.front.meeting.items c.args.area.now c.args.window same))
    (rw c.as_slice.ensures.value at c.first_fault.ensures.none)
