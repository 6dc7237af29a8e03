use Rattle.std.proofs.Common.{Err, sym, subst}
use Rattle.depot.specs.Counts.{Rose}
use Rattle.geo_stream.specs.declared.refusal.Refusal.TheVariants.{Fault}
use Rattle.job_input.specs.Parts.{IsInputAnswer}
use Rattle.job_input.specs.declared.refusing.InputBad.{InputBad}
use Rattle.job_input.proofs.Goes.{given_for, refused_for}
use Rattle.job_input.proofs.reading.read_both.Goals as goal

pub returns-in-Err-Fault-clause-answer : goal.returns-in-Err-Fault-clause-answer
returns-in-Err-Fault-clause-answer g c = λ tells.
    let told =
    refused_for (g.D.Depot.content c.args.depot.now) (g.D.Depot.content c.take_deck.new.depot)
    (g.D.Depot.counts c.args.depot.now) (g.D.Depot.counts c.take_deck.new.depot)
    (g.D.Depot.counts c.take_layout.new.depot)
    c.args.layout.now c.args.deck.now c.in_ok-deck.deck c.in-Err-Fault.bad (c.in_ok-deck.ensures.answer tells)
    (c.in_ok-deck.ensures.whole tells) c.in_ok-deck.ensures.counts (rw c.in-Err-Fault.field-0-is at (c.in-Err-Fault.ensures.answer tells)) in
    subst (λ (bad : InputBad). IsInputAnswer (g.D.Depot.content c.args.depot.now)
    (Rose (g.D.Depot.counts c.args.depot.now).read_faults (g.D.Depot.counts c.take_layout.new.depot).read_faults)
    c.args.layout.now c.args.deck.now (Err (Fault bad)))
    (sym c.layout_refused.ensures) told

pub returns-in-Ok-clause-answer : goal.returns-in-Ok-clause-answer
returns-in-Ok-clause-answer g c = λ tells.
    given_for (g.D.Depot.content c.args.depot.now)
    (g.D.Depot.content c.take_deck.new.depot) c.args.layout.now c.args.deck.now c.in_ok-deck.deck c.in-Ok.found
    (c.in_ok-deck.ensures.answer tells)
    (c.in_ok-deck.ensures.whole tells) (c.in-Ok.ensures.answer tells)
