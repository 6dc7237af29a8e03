use Rattle.geo_stream.proofs.ForCallers.{listed}
use Rattle.geo_stream.proofs.mapped.Mapped.new.Goals as goal

pub returns-clause-some_list : goal.returns-clause-some_list
returns-clause-some_list g c =
    let answers = listed _ c.requires.0 c.requires.2 in
    (answers.0, record { items = c.requires.0; source = c.requires.1; each = answers.1 })
