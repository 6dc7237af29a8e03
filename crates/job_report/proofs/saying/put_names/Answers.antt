use Rattle.std.proofs.Common.{ℕ, List, ◌∷◌, [], ◌++◌, take, sym, ap, ◌∙◌, subst, rules}
use Rattle.std.proofs.lemmas.List.{take_more}
use Rattle.depot.proofs.ForCallers.{refused, part_of_more_texts, said_then, texts_more}
use Rattle.depot.specs.Printing.{IsSaidButFor}
use Rattle.job_report.proofs.saying.put_names.Goals as goal

pub returns-in_err-put_name-clause-content : goal.returns-in_err-put_name-clause-content
returns-in_err-put_name-clause-content g c =
    let at = g.D.Depot.content in
    let l = c.loop-name in
    let xs = c.args.names.now in
    let x = c.name-item.result in
    let more = take_more xs l.name-index x c.loop-name-test.true ∙ ap (λ y. take l.name-index xs ++ y ∷ []) (sym c.name-item.is) in
    record {
      ok = search rules;
      refused = refused c.from_residual.result _
          (λ told. part_of_more_texts (at c.put_name.new.depot)
          (λ name. 32 ∷ name) c.args.buffer.now xs l.name-index x more (l.invariant.said told)
          (c.in_err-put_name.ensures.content.refused told));
    }

pub loop-name-preserved : goal.loop-name-preserved
loop-name-preserved g c =
    let at = g.D.Depot.content in
    let l = c.loop-name in
    let xs = c.args.names.now in
    let x = c.name-item.result in
    let more = take_more xs l.name-index x c.loop-name-test.true ∙ ap (λ y. take l.name-index xs ++ y ∷ []) (sym c.name-item.is) in
    record {
      said = λ told. subst
          (λ (t : List ℕ). IsSaidButFor (at c.args.depot.now) t c.put_name.new.buffer (at c.put_name.new.depot))
          (texts_more (λ name. 32 ∷ name) c.args.buffer.now xs l.name-index x more)
          (said_then (32 ∷ x) (l.invariant.said told) (c.in_ok-put_name.ensures.content.ok told));
      uncounted = c.in_ok-put_name.ensures.counts.uncounted ∙ l.invariant.uncounted;
      counted = search rules;
    }
