use Rattle.std.proofs.Common.{take, drop}
use Rattle.oas_lex.specs.Numbers.{GoesOn}
use Rattle.oas_lex.proofs.Reading.{Summed}
use Rattle.oas_lex.proofs.numbers.long_unsigned.Given as goal

abbrev pub invariant-loop-index : goal.invariant-loop-index
invariant-loop-index l = record {
  goes_on : GoesOn (take l.index (drop l.fn.at l.fn.bytes));
  sum : Summed (drop l.fn.at l.fn.bytes) l.index l.value l.weight;
}
