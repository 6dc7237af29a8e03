use Rattle.std.proofs.Common.{arith}
use Rattle.std.proofs.lemmas.Result.{err_from_is_err_and}
use Rattle.geo_stream.proofs.ForCallers.{for_fault_weaker}
use Rattle.shot_repeat.proofs.Progressing.{read_file, read_fault}
use Rattle.shot_repeat.proofs.packed_file.take_file.Goals as goal
use Rattle.shot_repeat.proofs.packed_file.take_file.Goals.{then-loop-progress-test+else-bytes-progress-ne-END, else-loop-progress-test}

pub ends_right-requires-clause-stops : goal.ends_right-requires-clause-stops
ends_right-requires-clause-stops c = λ inside. elim c.loop-progress-test.branch [
  | then-loop-progress-test+else-bytes-progress-ne-END w ↦ w.if-bytes-progress-ne-END.false
  | else-loop-progress-test w ↦ absurd (omega (arith, w.loop-progress-test.false, inside))
]

pub returns-in_err-progress-clause-refused : goal.returns-in_err-progress-clause-refused
returns-in_err-progress-clause-refused c =
    let p = err_from_is_err_and c.from_residual.result c.from_residual.ensures.1 in
    let h = c.loop-progress.invariant in
    rw (p.1, p.2) (for_fault_weaker _ _ c.in_err-progress.field-0.0
    (λ bad fault. read_fault c.args.bytes.now c.args.unit h.0 c.loop-progress.progress c.loop-progress.shots bad
    c.requires.start.unit_fits h.1 fault)
    (c.in_err-progress.ensures.refused c.args.unit h.0 h.1))

pub returns-in-Err-clause-refused : goal.returns-in-Err-clause-refused
returns-in-Err-clause-refused c =
    let h = c.loop-progress.invariant in
    read_fault c.args.bytes.now c.args.unit h.0 c.loop-progress.progress c.loop-progress.shots c.in-Err.bad
    c.requires.start.unit_fits h.1 (c.in-Err.ensures.refused h.0)

pub returns-clause-found : goal.returns-clause-found
returns-clause-found c =
    let h = c.loop-progress.invariant in
    read_file c.args.bytes.now c.args.unit h.0 c.loop-progress.progress c.loop-progress.shots c.requires.start.unit_fits h.1 c.in_default.ensures.ok
