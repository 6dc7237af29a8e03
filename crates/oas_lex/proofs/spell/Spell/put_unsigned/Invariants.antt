use Rattle.oas_lex.proofs.PutUnsigned.{PartlyPut}
use Rattle.oas_lex.proofs.spell.Spell.put_unsigned.Given as goal

abbrev pub invariant-loop-left : goal.invariant-loop-left
invariant-loop-left l = PartlyPut l.initial.self l.fn.value l.self l.left

abbrev pub decreases-loop-left : goal.decreases-loop-left
decreases-loop-left l = l.left
