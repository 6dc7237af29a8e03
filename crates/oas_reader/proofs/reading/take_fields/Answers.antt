use Rattle.std.proofs.Common.{◌∷◌, ◌∙◌, sym, subst}
use Rattle.oas_fields.specs.Values.{AreFields}
use Rattle.oas_reader.specs.Naming.{AreCalledWithin}
use Rattle.oas_reader.proofs.BodyLemmas.{cell_more}
use Rattle.oas_reader.proofs.reading.take_fields.Goals as goal

pub returns-clause-fields : goal.returns-clause-fields
returns-clause-fields c = λ past before.
    subst (AreFields (c.args.current ∷ past)) (sym (c.make_points.ensures ∙ c.make_places.ensures)) (c.take.ensures.fields past before)

pub returns-clause-cell : goal.returns-clause-cell
returns-clause-cell c =
    let some = c.requires.some in
    subst (λ fields. AreCalledWithin c.args.bytes.now fields.cell) (sym (c.make_points.ensures ∙ c.make_places.ensures))
    (subst (AreCalledWithin c.args.bytes.now) (sym (c.take.ensures.fields some.past some.values).cell)
    (cell_more c.args.bytes.now some.past c.args.current c.requires.body (subst (AreCalledWithin c.args.bytes.now) some.values.cell c.requires.cell)))
