use Rattle.oas_record.proofs.DecodedLemmas.{deltas_by, deltas_hold}
use Rattle.oas_record.proofs.items.Moves.new.Goals as goal

pub invariant_of-result : goal.invariant_of-result
invariant_of-result c = deltas_hold c.args.form c.args.count c.args.bytes.now c.args.at c.requires.within c.requires.stand

pub returns : goal.returns
returns c = λ ps next. deltas_by c.args.form c.args.count c.args.bytes.now c.args.at ps next
