use Rattle.std.proofs.Common.{length, drop, refl, ap, sym}
use Rattle.std.proofs.lemmas.Result.{err_from_is_err_and}
use Rattle.geo_stream.proofs.ForCallers.{for_fault_weaker}
use Rattle.shot_repeat.proofs.Progressing.{kept_by, illegal_fault, given_as, read_more}
use Rattle.shot_repeat.proofs.packed_file.read_one.Goals as goal

pub returns-in-Err-clause-refused : goal.returns-in-Err-clause-refused
returns-in-Err-clause-refused c = λ unit records h.
    let kept = kept_by records c.args.progress.now (length c.args.shots.now) (length c.as_slice.result.now) h.kept (sym (ap length c.as_slice.ensures)) in
    c.in-Err.ensures.refused records kept

pub returns-in_err-put_shots-clause-refused : goal.returns-in_err-put_shots-clause-refused
returns-in_err-put_shots-clause-refused c = λ unit records h.
    let p = err_from_is_err_and c.from_residual.result c.from_residual.ensures.1 in
    let kept = kept_by records c.args.progress.now (length c.args.shots.now) (length c.as_slice.result.now) h.kept (sym (ap length c.as_slice.ensures)) in
    let n = c.in-Ok.next in
    let is = c.in-Ok.ensures.ok in
    rw (p.1, p.2) (for_fault_weaker _ _ c.in_err-put_shots.field-0.0
    (λ bad illegal. illegal_fault records (drop c.args.progress.now.at c.args.bytes.now)
    (drop n.progress.at c.args.bytes.now) n.record n.fields c.step_of-step.result c.count_of-count.result
    c.args.progress.now.at bad
    is.narrow is.text (is.judged records kept) c.step_of-step.ensures c.count_of-count.ensures illegal)
    c.in_err-put_shots.ensures.refused)

pub returns-clause-next : goal.returns-clause-next
returns-clause-next c = c.in-Ok.ensures.ok.on

pub returns-clause-ok : goal.returns-clause-ok
returns-clause-ok c = λ unit records h.
    let kept = kept_by records c.args.progress.now (length c.args.shots.now) (length c.as_slice.result.now) h.kept (sym (ap length c.as_slice.ensures)) in
    let n = c.in-Ok.next in
    let is = c.in-Ok.ensures.ok in
    let put = c.in_ok-put_shots.ensures.ok in (
      n.record,
      read_more c.args.bytes.now unit records c.args.progress.now n.progress c.args.shots.now c.put_shots.new.shots
          put.0 n.record n.fields n.progress.modal n.progress.at
          h is.narrow is.text is.within is.modal (is.judged records kept) put.1
          (given_as n.fields n.record c.step_of-step.result c.count_of-count.result put.0 c.step_of-step.ensures
          c.count_of-count.ensures put.2) refl is.first refl,
    )
