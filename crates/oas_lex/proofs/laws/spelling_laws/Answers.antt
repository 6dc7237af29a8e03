use Rattle.oas_lex.proofs.Groups.{unsigned_least}
use Rattle.oas_lex.proofs.Wholes.{none_begins}
use Rattle.oas_lex.proofs.Reading.{has_one}
use Rattle.oas_lex.proofs.Codes.{signed_spells}
use Rattle.oas_lex.proofs.SpellingLemmas.{signed_least, unsigned_back, signed_back, one_signed}
use Rattle.oas_lex.proofs.laws.spelling_laws.Goals as goal

pub returns : goal.returns
returns c = record {
  unsigned_is_shortest = unsigned_least;
  signed_spells = signed_spells;
  signed_is_shortest = signed_least;
  none_begins = none_begins;
  unsigned_reads_back = unsigned_back;
  signed_reads_back = signed_back;
  one_unsigned = has_one;
  one_signed = one_signed;
}
