use Rattle.std.proofs.Common.{◌≡◌, ◌+◌, ◌<◌, ◌≤◌, ℕ, suc, length, List, ap, subst, ◌∙◌, refl, arith}
use Rattle.std.proofs.lemmas.Result.{on_ok_weaker, on_err_weaker}
use Rattle.depot.proofs.ForCallers.{refused}
use Rattle.deck_text.specs.declared.deck.Output.{Output}
use Rattle.deck_text.specs.declared.deck.Deck.{Deck}
use Rattle.density_report.specs.Rows.{AreTablesPut}
use Rattle.density_report.proofs.TableSteps.{none_put, one_put, one_cut, last_cut, all_said}
use Rattle.density_report.proofs.tables.say_tables.Goals as goal

pub loop-output-init : goal.loop-output-init
loop-output-init g c = record {
  put = none_put c.args.plan.now c.args.mesh.now.size g.D.Depot.tells (g.D.Depot.content c.args.depot.now) c.new-buffer.result c.new-buffer.ensures;
  uncounted = refl;
}

pub returns-in_err-say_table-clause-refused : goal.returns-in_err-say_table-clause-refused
returns-in_err-say_table-clause-refused g c =
    let at = g.D.Depot.content in
    let l = c.loop-output in
    let same : c.as_slice-count.result.now ≡ c.args.plan.now.deck.outputs = c.as_slice-count.ensures ∙ ap (λ (d : Deck). d.outputs) c.deck.ensures.value in
    let test = c.loop-output-test.true in
    let less : l.output < length c.args.plan.now.deck.outputs = omega (arith, test, ap (λ (x : List Output). length x) same) in
    refused c.from_residual.result _
    (λ told. one_cut c.args.plan.now c.args.mesh.now.size g.D.Depot.tells (at c.args.depot.now) l.output
    (at l.depot) (at c.say_table.new.depot) l.buffer less l.invariant.put told
    (c.in_err-say_table.ensures.refused told))

pub loop-output-preserved : goal.loop-output-preserved
loop-output-preserved g c =
    let at = g.D.Depot.content in
    let l = c.loop-output in
    let one_more : suc l.output ≡ l.output + 1 = omega arith in
    record {
      put = subst (λ (n : ℕ). AreTablesPut c.args.plan.now n c.args.mesh.now.size g.D.Depot.tells
          (at c.args.depot.now) c.say_table.new.buffer (at c.say_table.new.depot)) one_more
          (one_put c.args.plan.now c.args.mesh.now.size g.D.Depot.tells (at c.args.depot.now) l.output (at l.depot)
          (at c.say_table.new.depot) l.buffer c.say_table.new.buffer l.invariant.put c.in_ok-say_table.ensures.ok);
      uncounted = c.in_ok-say_table.ensures.counts.uncounted ∙ l.invariant.uncounted;
    }

pub returns-clause-ok : goal.returns-clause-ok
returns-clause-ok g c =
    let at = g.D.Depot.content in
    let l = c.loop-output in
    let same : c.as_slice-count.result.now ≡ c.args.plan.now.deck.outputs = c.as_slice-count.ensures ∙ ap (λ (d : Deck). d.outputs) c.deck.ensures.value in
    let test = c.loop-output-test.false in
    let all : length c.args.plan.now.deck.outputs ≡ l.output = omega (arith, test, ap (λ (x : List Output). length x) same) in
    on_ok_weaker c.flush.result
    (λ last. all_said c.args.plan.now c.args.mesh.now.size g.D.Depot.tells (at c.args.depot.now) l.output
    (at l.depot) (at c.flush.new.depot) l.buffer all l.invariant.put last) c.flush.ensures.content.ok

pub returns-clause-refused : goal.returns-clause-refused
returns-clause-refused g c =
    let at = g.D.Depot.content in
    let l = c.loop-output in
    let same : c.as_slice-count.result.now ≡ c.args.plan.now.deck.outputs = c.as_slice-count.ensures ∙ ap (λ (d : Deck). d.outputs) c.deck.ensures.value in
    let test = c.loop-output-test.false in
    let all : l.output ≤ length c.args.plan.now.deck.outputs = omega (arith, test, ap (λ (x : List Output). length x) same) in
    on_err_weaker c.flush.result
    (λ part told. last_cut c.args.plan.now c.args.mesh.now.size g.D.Depot.tells (at c.args.depot.now) l.output
    (at l.depot) (at c.flush.new.depot) l.buffer all l.invariant.put told (part told)) c.flush.ensures.content.refused
