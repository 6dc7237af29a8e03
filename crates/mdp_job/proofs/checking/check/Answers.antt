use Rattle.std.proofs.Common.{Ok, Err, refl}
use Rattle.depot.specs.Counts.{Rose}
use Rattle.mdp_job.specs.Runs.{run_of}
use Rattle.mdp_job.specs.Parts.{IsInputTold}
use Rattle.mdp_job.specs.Checking.{IsChecked}
use Rattle.mdp_job.proofs.Contents.{left_only}
use Rattle.mdp_job.proofs.Made.{given_answers, fault_told}
use Rattle.mdp_job.proofs.CheckRows.{checked_from, outputs_told}
use Rattle.mdp_job.proofs.checking.check.Goals as goal

pub returns-in-Ok-clause-answer : goal.returns-in-Ok-clause-answer
returns-in-Ok-clause-answer g c = λ tells.
    let at = g.D.Depot.content in
    let counts = g.D.Depot.counts in
    let e = c.in-Ok.ensures in
    let told : IsInputTold (at c.args.depot.now)
    (Rose (counts c.args.depot.now).read_faults (counts c.read_input.new.depot).read_faults)
    (Rose (counts c.args.depot.now).refused (counts c.read_input.new.depot).refused) c.args.layout.now c.args.deck.now (Ok c.in-Ok.input) =
    record {
      given = e.given tells;
      deck_long = e.deck_long tells;
      deck_bad = e.deck_bad tells;
      layout_long = e.layout_long tells;
      layout_gds = e.layout_gds tells;
      layout_oas = e.layout_oas tells;
      layout_tree = e.layout_tree tells;
      read_fault = λ f. fault_told _ _ _ (e.read_fault f);
      missing = e.missing tells;
      missing_deck = e.missing_deck tells;
    } in
    given_answers (IsChecked (run_of (at c.args.depot.now) (at c.check_input.new.depot) (counts c.args.depot.now)
    (counts c.check_input.new.depot))) (at c.args.depot.now) (at c.check_input.new.depot)
    (counts c.args.depot.now) (counts c.read_input.new.depot) (counts c.check_input.new.depot) c.args.layout.now
    c.args.deck.now c.in-Ok.input c.check_input.result.status c.check_input.result.top told c.check_input.ensures.counted
    (checked_from (at c.args.depot.now) (at c.read_input.new.depot) (at c.check_input.new.depot)
    (counts c.args.depot.now) (counts c.read_input.new.depot) (counts c.check_input.new.depot) c.in-Ok.input c.check_input.result.status
    e.counts (left_only (at c.args.depot.now) (at c.read_input.new.depot) (e.whole tells)) (c.check_input.ensures.checked tells))
    c.check_input.ensures.top

pub returns-in-Ok-clause-outputs : goal.returns-in-Ok-clause-outputs
returns-in-Ok-clause-outputs g c = λ tells.
    let at = g.D.Depot.content in
    let counts = g.D.Depot.counts in
    let e = c.in-Ok.ensures in
    outputs_told (run_of (at c.args.depot.now) (at c.check_input.new.depot) (counts c.args.depot.now)
    (counts c.check_input.new.depot)) c.args.layout.now c.args.deck.now c.in-Ok.input c.check_input.result.status c.check_input.result.outputs
    ((e.given tells c.in-Ok.input).only refl)
    (checked_from (at c.args.depot.now) (at c.read_input.new.depot) (at c.check_input.new.depot)
    (counts c.args.depot.now) (counts c.read_input.new.depot) (counts c.check_input.new.depot) c.in-Ok.input c.check_input.result.status
    e.counts (left_only (at c.args.depot.now) (at c.read_input.new.depot) (e.whole tells)) (c.check_input.ensures.checked tells))
    c.check_input.ensures.outputs

pub returns-in-Err-clause-answer : goal.returns-in-Err-clause-answer
returns-in-Err-clause-answer g c = λ tells.
    let e = c.in-Err.ensures in
    record {
      a = Err c.in-Err.refusal;
      told = record {
        given = e.given tells;
        deck_long = e.deck_long tells;
        deck_bad = e.deck_bad tells;
        layout_long = e.layout_long tells;
        layout_gds = e.layout_gds tells;
        layout_oas = e.layout_oas tells;
        layout_tree = e.layout_tree tells;
        read_fault = λ f. fault_told _ _ _ (e.read_fault f);
        missing = e.missing tells;
        missing_deck = e.missing_deck tells;
      };
      outcome = (c.refused_input.ensures.status, c.refused_input.ensures.top, e.others tells);
    }
