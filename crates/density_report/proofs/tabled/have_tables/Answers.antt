use Rattle.std.proofs.Common.{◌≡◌, ◌+◌, ℕ, suc, length, List, ◌∷◌, [], ◌++◌, ap, subst, ◌∙◌, arith}
use Rattle.deck_text.specs.declared.deck.Output.{Output}
use Rattle.deck_text.specs.declared.deck.Deck.{Deck}
use Rattle.density_report.specs.Saying.{AreTables}
use Rattle.density_report.proofs.TableSteps.{no_tables, next_tables}
use Rattle.density_report.proofs.tabled.have_tables.Goals as goal

pub loop-output-init : goal.loop-output-init
loop-output-init c = record { tables = []; are = no_tables c.args.plan.now c.args.mesh.now.size }

pub loop-output-preserved : goal.loop-output-preserved
loop-output-preserved c =
    let l = c.loop-output in
    let one_more : suc l.output ≡ l.output + 1 = omega arith in
    let table = c.has_table.ensures in
    record {
      tables = l.invariant.tables ++ table.0 ∷ [];
      are = subst (λ (n : ℕ). AreTables c.args.plan.now c.args.mesh.now.size n (l.invariant.tables ++ table.0 ∷ [])) one_more
          (next_tables c.args.plan.now c.args.mesh.now.size l.output l.invariant.tables table.0 l.invariant.are table.1);
    }

pub returns : goal.returns
returns c =
    let l = c.loop-output in
    let same : c.as_slice-count.result.now ≡ c.args.plan.now.deck.outputs = c.as_slice-count.ensures ∙ ap (λ (d : Deck). d.outputs) c.deck.ensures.value in
    let test = c.loop-output-test.false in
    let all : l.output ≡ length c.args.plan.now.deck.outputs = omega (arith, test, ap (λ (x : List Output). length x) same) in
    (l.invariant.tables, subst (λ (n : ℕ). AreTables c.args.plan.now c.args.mesh.now.size n l.invariant.tables) all l.invariant.are)
