use Rattle.std.proofs.Common.{◌≡◌, arith, subst, sym}
use Rattle.std.specs.Result.{IfErr}
use Rattle.oas_record.specs.Parts.{NotOf}
use Rattle.oas_record.proofs.Refusals.{err_weaker}
use Rattle.oas_record.proofs.RecordLemmas.{start_any, far_id}
use Rattle.oas_record.proofs.reading.rest_at.Goals as goal

pub returns-in-1-clause-bad : goal.returns-in-1-clause-bad
returns-in-1-clause-bad c =
    let is : c.args.id ≡ 1 = omega (arith, c.in-1) in
    subst (λ k. IfErr c.start.result (λ bad. NotOf k c.args.tables c.args.bytes.now c.args.at bad)) (sym is)
    (err_weaker _ _ c.start.result (start_any c.args.tables c.args.bytes.now c.args.at) c.start.ensures.bad)

pub returns-in_default-clause-bad : goal.returns-in_default-clause-bad
returns-in_default-clause-bad c = far_id c.args.id c.args.tables c.args.bytes.now c.args.at (omega (arith, c.in_default))
