use Rattle.std.proofs.Common.{rules, false, ap, Some}
use Rattle.oas_record.specs.Plain.{BeginsPlainly, rectangle_of}
use Rattle.oas_record.proofs.Ends.{record_on}
use Rattle.oas_record.proofs.PlainLemmas.{rectangle_there, rectangle_missing, one_rectangle}
use Rattle.oas_record.proofs.plain.plain_rectangle_at.Goals as goal

pub returns-in-Ok-clause-found : goal.returns-in-Ok-clause-found
returns-in-Ok-clause-found c = λ tables r next h.
    let begins : BeginsPlainly c.args.bytes.now c.args.at = search rules in
    let there = rectangle_there c.args.bytes.now c.args.at tables c.in-Ok.read.0 c.in-Ok.read.1 begins c.in-Ok.ensures.ok in
    ap Some (one_rectangle c.args.bytes.now c.args.at tables c.in-Ok.read (r, next) there h)

pub returns-in-Ok-clause-onward : goal.returns-in-Ok-clause-onward
returns-in-Ok-clause-onward c =
    let begins : BeginsPlainly c.args.bytes.now c.args.at = search rules in
    record_on c.args.bytes.now c.args.at false (rectangle_of c.in-Ok.read.0) c.in-Ok.read.1
    (rectangle_there c.args.bytes.now c.args.at false c.in-Ok.read.0 c.in-Ok.read.1 begins c.in-Ok.ensures.ok)

pub returns-in-Err-clause-found : goal.returns-in-Err-clause-found
returns-in-Err-clause-found c = λ tables r next h.
    let begins : BeginsPlainly c.args.bytes.now c.args.at = search rules in
    absurd (rectangle_missing c.args.bytes.now c.args.at tables r next c.in-Err._bad begins c.in-Err.ensures.bad h)
