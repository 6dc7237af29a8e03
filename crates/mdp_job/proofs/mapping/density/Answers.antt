use Rattle.std.proofs.Common.{Ok, Err, pos, subst, sym}
use Rattle.depot.specs.Counts.{Rose}
use Rattle.mdp_job.specs.Runs.{run_of}
use Rattle.mdp_job.specs.Parts.{IsInputTold}
use Rattle.mdp_job.specs.Densities.{IsCounted, IsDensityAnswer}
use Rattle.mdp_job.proofs.Made.{given_answers, fault_told}
use Rattle.mdp_job.proofs.DensityRows.{counted_from}
use Rattle.job_report.specs.declared.status.Status.{Status}
use Rattle.mdp_job.proofs.mapping.density.Goals as goal

pub returns-in-Ok-clause-answer : goal.returns-in-Ok-clause-answer
returns-in-Ok-clause-answer g c = λ tells.
    let at = g.D.Depot.content in
    let counts = g.D.Depot.counts in
    let e = c.in-Ok.ensures in
    let told : IsInputTold (at c.args.depot.now)
    (Rose (counts c.args.depot.now).read_faults (counts c.read_input.new.depot).read_faults)
    (Rose (counts c.args.depot.now).refused (counts c.read_input.new.depot).refused) c.args.layout.now c.args.deck.now (Ok c.in-Ok.input) =
    record {
      given = e.given tells;
      deck_long = e.deck_long tells;
      deck_bad = e.deck_bad tells;
      layout_long = e.layout_long tells;
      layout_gds = e.layout_gds tells;
      layout_oas = e.layout_oas tells;
      layout_tree = e.layout_tree tells;
      read_fault = λ f. fault_told _ _ _ (e.read_fault f);
      missing = e.missing tells;
      missing_deck = e.missing_deck tells;
    } in
    let counted_in : IsCounted (run_of (at c.args.depot.now) (at c.count_all.new.depot) (counts c.args.depot.now)
    (counts c.count_all.new.depot)) (pos c.args.size) c.in-Ok.input c.count_all.result =
    counted_from (at c.args.depot.now) (at c.read_input.new.depot) (at c.count_all.new.depot) (counts c.args.depot.now)
    (counts c.read_input.new.depot) (counts c.count_all.new.depot) (pos c.args.size) c.in-Ok.input
    c.count_all.result e.counts (e.whole tells) (c.count_all.ensures.counted_so tells) in
    subst (λ (s : Status). IsDensityAnswer
    (run_of (at c.args.depot.now) (at c.count_all.new.depot) (counts c.args.depot.now)
    (counts c.count_all.new.depot)) (pos c.args.size) c.args.layout.now c.args.deck.now s c.plain.result.top) (sym c.plain.ensures.status)
    (given_answers (IsCounted (run_of (at c.args.depot.now) (at c.count_all.new.depot) (counts c.args.depot.now)
    (counts c.count_all.new.depot)) (pos c.args.size)) (at c.args.depot.now) (at c.count_all.new.depot)
    (counts c.args.depot.now) (counts c.read_input.new.depot) (counts c.count_all.new.depot)
    c.args.layout.now c.args.deck.now c.in-Ok.input c.count_all.result c.plain.result.top told c.count_all.ensures.counted counted_in c.plain.ensures.top)

pub returns-in-Err-clause-answer : goal.returns-in-Err-clause-answer
returns-in-Err-clause-answer g c = λ tells.
    let e = c.in-Err.ensures in
    record {
      a = Err c.in-Err.refusal;
      told = record {
        given = e.given tells;
        deck_long = e.deck_long tells;
        deck_bad = e.deck_bad tells;
        layout_long = e.layout_long tells;
        layout_gds = e.layout_gds tells;
        layout_oas = e.layout_oas tells;
        layout_tree = e.layout_tree tells;
        read_fault = λ f. fault_told _ _ _ (e.read_fault f);
        missing = e.missing tells;
        missing_deck = e.missing_deck tells;
      };
      outcome = (c.refused_input.ensures.status, c.refused_input.ensures.top, e.others tells);
    }
