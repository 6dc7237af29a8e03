use Rattle.oas_record.proofs.DecodedLemmas.{numbers_by, numbers_hold}
use Rattle.oas_record.proofs.items.Numbers.new.Goals as goal

pub invariant_of-result : goal.invariant_of-result
invariant_of-result c = numbers_hold c.args.count c.args.bytes.now c.args.at c.requires.within c.requires.stand

pub returns : goal.returns
returns c = λ ns next. numbers_by c.args.count c.args.bytes.now c.args.at ns next
