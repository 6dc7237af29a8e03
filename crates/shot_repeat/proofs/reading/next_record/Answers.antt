use Rattle.std.proofs.Common.{drop, ap}
use Rattle.std.specs.Prelude.{Some}
use Rattle.std.proofs.lemmas.Result.{err_from_is_err_and}
use Rattle.shot_reader.proofs.ForCallers.{not_begun}
use Rattle.shot_repeat.proofs.Progressing.{unspelled, value_fault}
use Rattle.shot_repeat.proofs.reading.next_record.Goals as goal

pub returns-in_err-spelled-clause-refused : goal.returns-in_err-spelled-clause-refused
returns-in_err-spelled-clause-refused c = λ records k.
    let p = err_from_is_err_and c.from_residual.result c.from_residual.ensures.1 in
    rw (p.1, p.2) (unspelled records
    (drop c.args.progress.now.at c.args.bytes.now) c.args.progress.now.at c.in_err-spelled.field-0.0
    c.in_err-spelled.ensures.refused (not_begun c.args.bytes.now c.args.progress.now.at c.requires.no_end))

pub returns-in_err-fields-clause-refused : goal.returns-in_err-fields-clause-refused
returns-in_err-fields-clause-refused c = λ records k.
    let p = err_from_is_err_and c.from_residual-in_err-fields.result c.from_residual-in_err-fields.ensures.1 in
    rw (p.1, p.2) (value_fault records (drop c.args.progress.now.at c.args.bytes.now)
    (drop c.in_ok-spelled.spelled.next c.args.bytes.now) c.in_ok-spelled.spelled.record c.args.progress.now.at
    c.in_err-fields.field-0.0 c.in_ok-spelled.ensures.narrow c.in_ok-spelled.ensures.found
    (c.in_err-fields.ensures.refused records k))

pub returns-clause-ok : goal.returns-clause-ok
returns-clause-ok c = record {
  narrow = c.in_ok-spelled.ensures.narrow;
  text = c.in_ok-spelled.ensures.found;
  on = c.in_ok-spelled.ensures.next.0;
  within = c.in_ok-spelled.ensures.next.1;
  modal = c.updated-modal.ensures;
  first = ap Some c.first_of.ensures;
  judged = λ before k. c.in_ok-fields.ensures.ok before k;
}
