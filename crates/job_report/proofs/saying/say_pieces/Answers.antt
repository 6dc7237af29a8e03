use Rattle.std.proofs.Common.{List, ℕ, ◌++◌, ap, subst, ◌∙◌}
use Rattle.std.proofs.lemmas.Result.{on_ok_weaker, on_err_weaker}
use Rattle.depot.specs.Content.{IsPartSaid, with_said}
use Rattle.depot.proofs.ForCallers.{part_held, say_held}
use Rattle.job_report.specs.Pieces.{spelled}
use Rattle.job_report.proofs.saying.say_pieces.Goals as goal

pub returns-clause-content : goal.returns-clause-content
returns-clause-content g c =
    let at = g.D.Depot.content in
    let whole = ap (λ (b : List ℕ). b ++ spelled c.args.pieces.now) c.new-buffer.ensures in
    record {
      ok = on_ok_weaker c.flush.result
          (λ all told. say_held (at c.flush.new.depot) (c.in_ok-put_pieces.ensures.content.ok told) (all told) ∙ ap
          (with_said (at c.args.depot.now)) whole) c.flush.ensures.content.ok;
      refused = on_err_weaker c.flush.result
          (λ part told. subst (λ (t : List ℕ). IsPartSaid (at c.args.depot.now) t (at c.flush.new.depot)) whole
          (part_held (at c.flush.new.depot) (c.in_ok-put_pieces.ensures.content.ok told) (part told))) c.flush.ensures.content.refused;
    }
