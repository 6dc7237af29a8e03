use Rattle.std.proofs.lemmas.Result.{IfErr-weaker}
use Rattle.geo_stream.specs.Refusals.{IsForFault}
use Rattle.oas_reader.specs.Naming.{cell_name_record, IsConflict}
use Rattle.oas_reader.specs.Taking.{IsBadName}
use Rattle.oas_reader.proofs.TakeLemmas.{bad_name}
use Rattle.oas_reader.proofs.taking.take_cell_name.Goals as goal

pub returns-clause-new : goal.returns-clause-new
returns-clause-new c = λ past are. c.give.ensures.new c.args.bytes.now past are

pub returns-clause-bad : goal.returns-clause-bad
returns-clause-bad c = λ past are.
    let r = cell_name_record c.args.name c.args.number in
    IfErr-weaker c.give.result (IsForFault (IsConflict c.args.bytes.now past r c.args.at)) (IsForFault (IsBadName c.args.bytes.now past c.args.at r))
    (λ refusal. bad_name c.args.bytes.now past c.args.at r refusal c.in_ok-look_at_name.ensures.ok) (c.give.ensures.twice c.args.bytes.now past are)
