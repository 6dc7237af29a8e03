use Rattle.std.proofs.Common.{arith}
use Rattle.oas_lex.proofs.Readers.{found_by, fault_by, real_reader, real_there, real_missing}
use Rattle.oas_lex.proofs.real_readers.real.Goals as goal

pub returns-clause-found : goal.returns-clause-found
returns-clause-found c = λ real next.
    found_by (real_reader c.args.bytes.now c.args.at) c.parts.result c.parts.ensures.ok c.parts.ensures.bad
    (λ v. real_there c.args.bytes.now c.args.at c.byte_at.result v (omega (arith, c.requires, c.if-at-bytes.false)) c.byte_at.ensures)
    (λ e. real_missing c.args.bytes.now c.args.at c.byte_at.result e (omega (arith, c.requires, c.if-at-bytes.false)) c.byte_at.ensures)
    (real, next)

pub returns-clause-fault : goal.returns-clause-fault
returns-clause-fault c =
    fault_by (real_reader c.args.bytes.now c.args.at) c.parts.result c.parts.ensures.ok c.parts.ensures.bad
    (λ v. real_there c.args.bytes.now c.args.at c.byte_at.result v (omega (arith, c.requires, c.if-at-bytes.false)) c.byte_at.ensures)
    (λ e. real_missing c.args.bytes.now c.args.at c.byte_at.result e (omega (arith, c.requires, c.if-at-bytes.false)) c.byte_at.ensures)
