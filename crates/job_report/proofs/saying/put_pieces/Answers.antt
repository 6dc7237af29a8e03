use Rattle.std.proofs.Common.{ℕ, List, ◌∷◌, [], ◌++◌, take, sym, ap, ◌∙◌, subst, rules}
use Rattle.std.proofs.lemmas.List.{take_more}
use Rattle.depot.proofs.ForCallers.{refused, part_of_more_texts, said_then, texts_more}
use Rattle.depot.specs.Printing.{IsSaidButFor}
use Rattle.job_report.specs.Pieces.{text_of}
use Rattle.job_report.proofs.saying.put_pieces.Goals as goal

pub returns-in_err-put_one-clause-content : goal.returns-in_err-put_one-clause-content
returns-in_err-put_one-clause-content g c =
    let at = g.D.Depot.content in
    let l = c.loop-piece in
    let xs = c.args.pieces.now in
    let x = c.piece-item.result in
    let more = take_more xs l.piece-index x c.loop-piece-test.true ∙ ap (λ y. take l.piece-index xs ++ y ∷ []) (sym c.piece-item.is) in
    record {
      ok = search rules;
      refused = refused c.from_residual.result _
          (λ told. part_of_more_texts (at c.put_one.new.depot) text_of c.args.buffer.now xs l.piece-index x more
          (l.invariant.said told) (c.in_err-put_one.ensures.content.refused told));
    }

pub loop-piece-preserved : goal.loop-piece-preserved
loop-piece-preserved g c =
    let at = g.D.Depot.content in
    let l = c.loop-piece in
    let xs = c.args.pieces.now in
    let x = c.piece-item.result in
    let more = take_more xs l.piece-index x c.loop-piece-test.true ∙ ap (λ y. take l.piece-index xs ++ y ∷ []) (sym c.piece-item.is) in
    record {
      said = λ told. subst
          (λ (t : List ℕ). IsSaidButFor (at c.args.depot.now) t c.put_one.new.buffer (at c.put_one.new.depot))
          (texts_more text_of c.args.buffer.now xs l.piece-index x more)
          (said_then (text_of x) (l.invariant.said told) (c.in_ok-put_one.ensures.content.ok told));
      uncounted = c.in_ok-put_one.ensures.counts.uncounted ∙ l.invariant.uncounted;
      counted = search rules;
    }
