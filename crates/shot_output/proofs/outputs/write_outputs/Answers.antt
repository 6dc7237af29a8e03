use Rattle.std.proofs.Common.{◌≡◌, ◌+◌, ◌<◌, cond, not, ℕ, suc, length, List, [], ◌∷◌, ◌++◌, ap, subst, sym, ◌∙◌, refl, arith}
use Rattle.depot.proofs.ForCallers.{refused}
use Rattle.deck_text.specs.declared.deck.Output.{Output}
use Rattle.deck_text.specs.declared.deck.Deck.{Deck}
use Rattle.shot_writer.specs.declared.parts.Sums.{Sums}
use Rattle.shot_output.specs.Files.{AreWritten}
use Rattle.shot_output.proofs.OutputLemmas.{none_written, written_next, written_cut, written_stop}
use Rattle.shot_output.proofs.outputs.write_outputs.Goals as goal

pub loop-output-init : goal.loop-output-init
loop-output-init g c =
    record {
      written = subst
          (λ (s : List Sums). AreWritten c.args.plan.now 0 g.D.Depot.tells (g.D.Depot.content c.args.depot.now)
          (g.D.Depot.content c.args.depot.now) s) (sym c.new-all.ensures.items)
          (none_written c.args.plan.now c.deck.ensures.sound.2.files g.D.Depot.tells (g.D.Depot.content c.args.depot.now));
      uncounted = refl;
    }

pub returns-in_err-sums-clause-refused : goal.returns-in_err-sums-clause-refused
returns-in_err-sums-clause-refused g c =
    let same : c.as_slice-count.result.now ≡ c.args.plan.now.deck.outputs = c.as_slice-count.ensures ∙ ap (λ (d : Deck). d.outputs) c.deck.ensures.value in
    let test = c.loop-output-test.true in
    refused c.from_residual.result _
    (written_cut c.args.plan.now c.deck.ensures.sound.2.files g.D.Depot.tells
    (g.D.Depot.content c.args.depot.now) c.loop-output.output
    (g.D.Depot.content c.loop-output.depot) c.loop-output.all.items c.loop-output.invariant.written
    (g.D.Depot.content c.write_output.new.depot)
    (omega (arith, test, ap (λ (l : List Output). length l) same)) c.in_err-sums.ensures.refused)

pub returns-then-is_err-clause-refused : goal.returns-then-is_err-clause-refused
returns-then-is_err-clause-refused g c =
    let same : c.as_slice-count.result.now ≡ c.args.plan.now.deck.outputs = c.as_slice-count.ensures ∙ ap (λ (d : Deck). d.outputs) c.deck.ensures.value in
    let test = c.loop-output-test.true in
    let less : c.loop-output.output < length c.args.plan.now.deck.outputs = omega (arith, test, ap (λ (l : List Output). length l) same) in
    let next : AreWritten c.args.plan.now (suc c.loop-output.output) g.D.Depot.tells
    (g.D.Depot.content c.args.depot.now) (g.D.Depot.content c.write_output.new.depot)
    (c.loop-output.all.items ++ c.in_ok-sums.sums ∷ []) =
    written_next c.args.plan.now c.deck.ensures.sound.2.files g.D.Depot.tells
    (g.D.Depot.content c.args.depot.now) c.loop-output.output
    (g.D.Depot.content c.loop-output.depot) c.loop-output.all.items c.loop-output.invariant.written
    (g.D.Depot.content c.write_output.new.depot) c.in_ok-sums.sums less c.in_ok-sums.ensures.ok in
    written_stop c.args.plan.now c.deck.ensures.sound.2.files g.D.Depot.tells (g.D.Depot.content c.args.depot.now)
    (suc c.loop-output.output) (g.D.Depot.content c.write_output.new.depot)
    (c.loop-output.all.items ++ c.in_ok-sums.sums ∷ []) next less

pub loop-output-preserved : goal.loop-output-preserved
loop-output-preserved g c =
    let same : c.as_slice-count.result.now ≡ c.args.plan.now.deck.outputs = c.as_slice-count.ensures ∙ ap (λ (d : Deck). d.outputs) c.deck.ensures.value in
    let test = c.loop-output-test.true in
    let less : c.loop-output.output < length c.args.plan.now.deck.outputs = omega (arith, test, ap (λ (l : List Output). length l) same) in
    let next : AreWritten c.args.plan.now (suc c.loop-output.output) g.D.Depot.tells
    (g.D.Depot.content c.args.depot.now) (g.D.Depot.content c.write_output.new.depot)
    (c.loop-output.all.items ++ c.in_ok-sums.sums ∷ []) =
    written_next c.args.plan.now c.deck.ensures.sound.2.files g.D.Depot.tells
    (g.D.Depot.content c.args.depot.now) c.loop-output.output
    (g.D.Depot.content c.loop-output.depot) c.loop-output.all.items c.loop-output.invariant.written
    (g.D.Depot.content c.write_output.new.depot) c.in_ok-sums.sums less c.in_ok-sums.ensures.ok in
    let pushed : c.push.new.self.items ≡ c.loop-output.all.items ++ c.in_ok-sums.sums ∷ [] =
    c.push.ensures.items ∙ ap (λ b. cond b (c.loop-output.all.items ++ c.in_ok-sums.sums ∷ []) c.loop-output.all.items)
    (c.is_err.ensures.negation ∙ ap not c.if-is_err.false) in
    let one_more : suc c.loop-output.output ≡ c.loop-output.output + 1 = omega arith in
    record {
      written = subst (λ (s : List Sums). AreWritten c.args.plan.now (c.loop-output.output + 1) g.D.Depot.tells
          (g.D.Depot.content c.args.depot.now) (g.D.Depot.content c.write_output.new.depot) s) (sym pushed)
          (subst (λ (n : ℕ). AreWritten c.args.plan.now n g.D.Depot.tells (g.D.Depot.content c.args.depot.now)
          (g.D.Depot.content c.write_output.new.depot) (c.loop-output.all.items ++ c.in_ok-sums.sums ∷ []))
          one_more next);
      uncounted = c.in_ok-sums.ensures.counts.uncounted ∙ c.loop-output.invariant.uncounted;
    }
