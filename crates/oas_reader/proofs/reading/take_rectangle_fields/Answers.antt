use Rattle.std.proofs.Common.{sym, subst}
use Rattle.oas_record.specs.Plain.{rectangle_of}
use Rattle.oas_reader.specs.Naming.{AreCalledWithin}
use Rattle.oas_reader.proofs.BodyLemmas.{cell_more}
use Rattle.oas_reader.proofs.reading.take_rectangle_fields.Goals as goal

pub returns-clause-cell : goal.returns-clause-cell
returns-clause-cell c =
    let some = c.requires.some in
    subst (AreCalledWithin c.args.bytes.now) (sym (c.take_rectangle.ensures.fields some.past some.values).cell)
    (cell_more c.args.bytes.now some.past (rectangle_of c.args.current.now) tt (subst (AreCalledWithin c.args.bytes.now) some.values.cell c.requires.cell))
