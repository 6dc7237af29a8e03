use Rattle.oas_reader.proofs.GeometryLemmas.{placed_within}
use Rattle.oas_reader.proofs.values.take_placing.Goals as goal

pub returns-in-Ok-place-clause-within : goal.returns-in-Ok-place-clause-within
returns-in-Ok-place-clause-within c = λ before.
    placed_within c.args.bytes.now c.in-Ok.placing _ c.args.drafts.now c.place.new.self c.in-Ok.ensures.placed c.requires.within c.in-Ok.ensures.grid
    c.in-Ok-place.ensures.placings c.in-Ok-place.ensures.shapes c.in-Ok-place.ensures.begun c.in-Ok-place.ensures.whole before
