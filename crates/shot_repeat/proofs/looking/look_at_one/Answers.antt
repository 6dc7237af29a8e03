use Rattle.std.proofs.Common.{[], ◌∷◌, ◌++◌, drop, refl, arith, length-append}
use Rattle.std.proofs.lemmas.Result.{err_from_is_err_and}
use Rattle.shot_repeat.proofs.Progressing.{kept_by, illegal_fault, given_as, given_some, read_fault, read_more}
use Rattle.shot_repeat.proofs.looking.look_at_one.Goals as goal

pub returns-in_err-next-clause-refused : goal.returns-in_err-next-clause-refused
returns-in_err-next-clause-refused c = λ unit fits h.
    let p = err_from_is_err_and c.from_residual.result c.from_residual.ensures.1 in
    let kept = kept_by h.0 c.args.progress.now _ c.args.so_far h.2.kept h.3 in
    rw (p.1, p.2) (read_fault c.args.bytes.now unit h.0 c.args.progress.now h.1 c.in_err-next.field-0.0 fits h.2 (c.in_err-next.ensures.refused h.0 kept))

pub returns-in_err-look_at_shots-clause-refused : goal.returns-in_err-look_at_shots-clause-refused
returns-in_err-look_at_shots-clause-refused c = λ unit fits h.
    let p = err_from_is_err_and c.from_residual-in_err-look_at_shots.result c.from_residual-in_err-look_at_shots.ensures.1 in
    let kept = kept_by h.0 c.args.progress.now _ c.args.so_far h.2.kept h.3 in
    let n = c.in_ok-next.next in
    let is = c.in_ok-next.ensures.ok in
    rw (p.1, p.2) (read_fault c.args.bytes.now unit h.0 c.args.progress.now h.1 c.in_err-look_at_shots.field-0.0 fits h.2
    (illegal_fault h.0 (drop c.args.progress.now.at c.args.bytes.now)
    (drop n.progress.at c.args.bytes.now) n.record n.fields c.step_of-step.result c.count_of-count.result
    c.args.progress.now.at c.in_err-look_at_shots.field-0.0
    is.narrow is.text (is.judged h.0 kept) c.step_of-step.ensures c.count_of-count.ensures c.in_err-look_at_shots.ensures.refused))

pub returns-clause-next : goal.returns-clause-next
returns-clause-next c = c.in_ok-next.ensures.ok.on

pub returns-clause-ok : goal.returns-clause-ok
returns-clause-ok c = λ unit h.
    let kept = kept_by h.0 c.args.progress.now _ c.args.so_far h.2.kept h.3 in
    let n = c.in_ok-next.next in
    let is = c.in_ok-next.ensures.ok in
    let seen = c.in_ok-look_at_shots.ensures.ok in
    let given = given_as n.fields n.record c.step_of-step.result c.count_of-count.result seen.0 c.step_of-step.ensures c.count_of-count.ensures seen.1 in (
      h.0 ++ n.record ∷ [],
      h.1 ++ seen.0,
      read_more c.args.bytes.now unit h.0 c.args.progress.now n.progress h.1
          (h.1 ++ seen.0) seen.0 n.record n.fields n.progress.modal n.progress.at h.2 is.narrow is.text is.within
          is.modal (is.judged h.0 kept) refl given refl is.first refl,
      omega (arith, length-append h.1 seen.0, h.3, given_some n.fields n.record seen.0 given, c.count_of-count.ensures),
    )
