use Rattle.std.proofs.Common.{ℕ, List, [], ◌∷◌, ◌++◌, append_assoc, ap, ◌∙◌, subst, rules}
use Rattle.std.proofs.lemmas.Result.{on_ok_weaker, on_err_weaker}
use Rattle.depot.specs.Content.{IsPartSaid}
use Rattle.depot.specs.Printing.{IsSaidButFor}
use Rattle.depot.proofs.ForCallers.{refused, part_of_longer, part_held, hold_more, said_then}
use Rattle.job_report.proofs.saying.put_name.Goals as goal

pub returns-in_err-put_piece-clause-content : goal.returns-in_err-put_piece-clause-content
returns-in_err-put_piece-clause-content g c =
    let at = g.D.Depot.content in
    record {
      ok = search rules;
      refused = refused c.from_residual.result _
          (λ told. subst (λ (t : List ℕ). IsPartSaid (at c.args.depot.now) t (at c.put_piece.new.depot))
          (append_assoc c.args.buffer.now (32 ∷ []) c.args.name.now)
          (part_of_longer (at c.args.depot.now) (at c.put_piece.new.depot) (c.args.buffer.now ++ 32 ∷ []) c.args.name.now
          (c.in_err-put_piece.ensures.content.refused told)));
    }

pub returns-clause-content : goal.returns-clause-content
returns-clause-content g c =
    let at = g.D.Depot.content in
    let whole = append_assoc c.args.buffer.now (32 ∷ []) c.bytes.result.now ∙ ap (λ (n : List ℕ). c.args.buffer.now ++ (32 ∷ n)) c.bytes.ensures.value in
    record {
      ok = on_ok_weaker c.put_piece-2.result
          (λ all told. subst (λ (t : List ℕ). IsSaidButFor (at c.args.depot.now) t c.put_piece-2.new.buffer (at c.put_piece-2.new.depot)) whole
          (said_then c.bytes.result.now (c.in_ok-put_piece.ensures.content.ok told) (all told))) c.put_piece-2.ensures.content.ok;
      refused = on_err_weaker c.put_piece-2.result
          (λ part told. subst (λ (t : List ℕ). IsPartSaid (at c.args.depot.now) t (at c.put_piece-2.new.depot)) whole
          (part_held (at c.put_piece-2.new.depot) (hold_more c.bytes.result.now (c.in_ok-put_piece.ensures.content.ok told)) (part told)))
          c.put_piece-2.ensures.content.refused;
    }
