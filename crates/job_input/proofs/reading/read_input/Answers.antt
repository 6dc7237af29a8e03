use Rattle.depot.specs.Counts.{Rose}
use Rattle.job_input.proofs.Causes.{laws_of}
use Rattle.job_input.proofs.Rows.{given, deck_bad, layout_long, layout_gds, layout_oas, layout_tree, missing}
use Rattle.job_input.proofs.reading.read_input.Goals as goal

pub returns-clause-given : goal.returns-clause-given
returns-clause-given g c = λ tells.
    given (laws_of c.reading_laws.ensures.layout c.reading_laws.ensures.fault c.reading_laws.ensures.apart)
    (g.D.Depot.content c.args.depot.now)
    (Rose (g.D.Depot.counts c.args.depot.now).read_faults (g.D.Depot.counts c.read_both.new.depot).read_faults)
    c.args.layout.now c.args.deck.now c.read_both.result (c.read_both.ensures.answer tells)

pub returns-clause-deck_bad : goal.returns-clause-deck_bad
returns-clause-deck_bad g c = λ tells.
    deck_bad (laws_of c.reading_laws.ensures.layout c.reading_laws.ensures.fault c.reading_laws.ensures.apart)
    (g.D.Depot.content c.args.depot.now)
    (Rose (g.D.Depot.counts c.args.depot.now).read_faults (g.D.Depot.counts c.read_both.new.depot).read_faults)
    c.args.layout.now c.args.deck.now c.read_both.result (c.read_both.ensures.answer tells)

pub returns-clause-layout_long : goal.returns-clause-layout_long
returns-clause-layout_long g c = λ tells.
    layout_long (laws_of c.reading_laws.ensures.layout c.reading_laws.ensures.fault c.reading_laws.ensures.apart)
    (g.D.Depot.content c.args.depot.now)
    (Rose (g.D.Depot.counts c.args.depot.now).read_faults (g.D.Depot.counts c.read_both.new.depot).read_faults)
    c.args.layout.now c.args.deck.now c.read_both.result (c.read_both.ensures.answer tells)

pub returns-clause-layout_gds : goal.returns-clause-layout_gds
returns-clause-layout_gds g c = λ tells.
    layout_gds (laws_of c.reading_laws.ensures.layout c.reading_laws.ensures.fault c.reading_laws.ensures.apart)
    (g.D.Depot.content c.args.depot.now)
    (Rose (g.D.Depot.counts c.args.depot.now).read_faults (g.D.Depot.counts c.read_both.new.depot).read_faults)
    c.args.layout.now c.args.deck.now c.read_both.result (c.read_both.ensures.answer tells)

pub returns-clause-layout_oas : goal.returns-clause-layout_oas
returns-clause-layout_oas g c = λ tells.
    layout_oas (laws_of c.reading_laws.ensures.layout c.reading_laws.ensures.fault c.reading_laws.ensures.apart)
    (g.D.Depot.content c.args.depot.now)
    (Rose (g.D.Depot.counts c.args.depot.now).read_faults (g.D.Depot.counts c.read_both.new.depot).read_faults)
    c.args.layout.now c.args.deck.now c.read_both.result (c.read_both.ensures.answer tells)

pub returns-clause-layout_tree : goal.returns-clause-layout_tree
returns-clause-layout_tree g c = λ tells.
    layout_tree (laws_of c.reading_laws.ensures.layout c.reading_laws.ensures.fault c.reading_laws.ensures.apart)
    (g.D.Depot.content c.args.depot.now)
    (Rose (g.D.Depot.counts c.args.depot.now).read_faults (g.D.Depot.counts c.read_both.new.depot).read_faults)
    c.args.layout.now c.args.deck.now c.read_both.result (c.read_both.ensures.answer tells)

pub returns-clause-missing : goal.returns-clause-missing
returns-clause-missing g c = λ tells.
    missing (laws_of c.reading_laws.ensures.layout c.reading_laws.ensures.fault c.reading_laws.ensures.apart)
    (g.D.Depot.content c.args.depot.now)
    (Rose (g.D.Depot.counts c.args.depot.now).read_faults (g.D.Depot.counts c.read_both.new.depot).read_faults)
    c.args.layout.now c.args.deck.now c.read_both.result (c.read_both.ensures.answer tells)
