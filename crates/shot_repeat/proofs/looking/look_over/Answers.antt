use Rattle.std.proofs.Common.{arith}
use Rattle.shot_repeat.proofs.Asks.{seen_few}
use Rattle.shot_repeat.proofs.Progressing.{read_fault, on_ok_by, err_by}
use Rattle.shot_repeat.proofs.looking.look_over.Goals as goal
use Rattle.shot_repeat.proofs.looking.look_over.Goals.{then-loop-progress-test+else-bytes-progress-ne-END, else-loop-progress-test}

pub ends_right-requires-clause-stops : goal.ends_right-requires-clause-stops
ends_right-requires-clause-stops c = λ inside. elim c.loop-progress-test.branch [
  | then-loop-progress-test+else-bytes-progress-ne-END w ↦ w.if-bytes-progress-ne-END.false
  | else-loop-progress-test w ↦ absurd (omega (arith, w.loop-progress-test.false, inside))
]

pub returns-clause-ok : goal.returns-clause-ok
returns-clause-ok c =
    let h = c.loop-progress.invariant in
    on_ok_by c.ends_right.result _ _
    (λ e. seen_few c.args.bytes.now h.0 c.args.start.now c.loop-progress.progress h.2.0 h.2.1 h.1.read h.2.2 e)
    c.ends_right.ensures.ok

pub returns-clause-refused : goal.returns-clause-refused
returns-clause-refused c =
    let h = c.loop-progress.invariant in
    err_by c.ends_right.result _ _
    (λ bad f. read_fault c.args.bytes.now h.0 h.2.0 c.loop-progress.progress h.2.1 bad h.1.unit_fits h.2.2 f)
    (c.ends_right.ensures.refused h.2.0)
