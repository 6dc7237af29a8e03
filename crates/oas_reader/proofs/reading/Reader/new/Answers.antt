use Rattle.std.proofs.Common.{refl}
use Rattle.oas_reader.proofs.TakenLemmas.{near_first, cell_first, spans_first}
use Rattle.oas_reader.proofs.reading.Reader.new.Goals as goal

pub returns-clause-reader : goal.returns-clause-reader
returns-clause-reader c = λ bytes wanted. record {
  place = refl;
  tables = refl;
  fields = c.new.ensures;
  names = c.new-2.ensures.names bytes;
  drafts = c.new-3.ensures.drafts wanted;
  counts = refl;
}

pub returns-clause-within : goal.returns-clause-within
returns-clause-within c = λ bytes. record {
  near = near_first c.new.result c.new.ensures;
  cell = cell_first bytes c.new.result c.new.ensures;
  spans = spans_first bytes c.new-2.result (c.new-2.ensures.names bytes);
  drafts = c.new-3.ensures.within bytes;
}
