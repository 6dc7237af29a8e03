use Rattle.oas_reader.proofs.CellLemmas.{begun_within}
use Rattle.oas_reader.proofs.taking.take_cell.Goals as goal

pub returns-clause-within : goal.returns-clause-within
returns-clause-within c = λ are.
    let e = c.in_ok-begin-2.ensures in
    begun_within c.args.bytes.now c.args.at c.args.called c.args.drafts.now c.begin-2.new.self
    (record { begun = e.begun; shapes = e.shapes; placings = e.placings; whole = e.whole }) c.requires.called are
