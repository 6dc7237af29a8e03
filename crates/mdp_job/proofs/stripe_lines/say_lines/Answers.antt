use Rattle.std.proofs.Common.{◌≡◌, ◌++◌, ℕ, List, ap, subst, refl, ◌∙◌, flat_map, rules}
use Rattle.std.proofs.lemmas.Result.{on_ok_weaker, on_err_weaker}
use Rattle.depot.specs.Content.{IsPartSaid, with_said}
use Rattle.depot.proofs.ForCallers.{refused}
use Rattle.depot.proofs.ForCallers.{part_of_longer, part_held, say_held, hold_more, said_then}
use Rattle.job_report.specs.Pieces.{spelled}
use Rattle.mdp_job.specs.Splitting.{stripe_line, sums_text, lines_of_stripes}
use Rattle.mdp_job.proofs.stripe_lines.say_lines.Goals as goal

pub returns-in_err-put_stripes-clause-content : goal.returns-in_err-put_stripes-clause-content
returns-in_err-put_stripes-clause-content g c =
    let at = g.D.Depot.content in
    let whole : (c.new-buffer.result ++ flat_map stripe_line c.args.each.now) ++ sums_text c.args.all.now ≡ lines_of_stripes c.args.each.now c.args.all.now =
    rw c.new-buffer.ensures refl in
    record {
      ok = search rules;
      refused = refused c.from_residual.result _ (λ told. subst (λ (t : List ℕ). IsPartSaid (at c.args.depot.now) t (at c.put_stripes.new.depot)) whole
          (part_of_longer (at c.args.depot.now) (at c.put_stripes.new.depot) _ (sums_text c.args.all.now) (c.in_err-put_stripes.ensures.content.refused told)));
    }

pub returns-in_err-put_pieces-clause-content : goal.returns-in_err-put_pieces-clause-content
returns-in_err-put_pieces-clause-content g c =
    let at = g.D.Depot.content in
    let whole : (c.new-buffer.result ++ flat_map stripe_line c.args.each.now) ++ spelled c.all_pieces.result ≡ lines_of_stripes c.args.each.now c.args.all.now =
    rw (c.new-buffer.ensures, c.all_pieces.ensures) refl in
    record {
      ok = search rules;
      refused = refused c.from_residual-in_err-put_pieces.result _
          (λ told. subst (λ (t : List ℕ). IsPartSaid (at c.args.depot.now) t (at c.put_pieces.new.depot)) whole
          (part_held (at c.put_pieces.new.depot)
          (hold_more (spelled c.all_pieces.result) (c.in_ok-put_stripes.ensures.content.ok told)) (c.in_err-put_pieces.ensures.content.refused told)));
    }

pub returns-clause-content : goal.returns-clause-content
returns-clause-content g c =
    let at = g.D.Depot.content in
    let whole : (c.new-buffer.result ++ flat_map stripe_line c.args.each.now) ++ spelled c.all_pieces.result ≡ lines_of_stripes c.args.each.now c.args.all.now =
    rw (c.new-buffer.ensures, c.all_pieces.ensures) refl in
    record {
      ok = on_ok_weaker c.flush.result (λ all told. say_held (at c.flush.new.depot)
          (said_then (spelled c.all_pieces.result) (c.in_ok-put_stripes.ensures.content.ok told)
          (c.in_ok-put_pieces.ensures.content.ok told)) (all told) ∙ ap (with_said (at c.args.depot.now)) whole) c.flush.ensures.content.ok;
      refused = on_err_weaker c.flush.result (λ part told. subst (λ (t : List ℕ). IsPartSaid (at c.args.depot.now) t (at c.flush.new.depot)) whole
          (part_held (at c.flush.new.depot)
          (said_then (spelled c.all_pieces.result) (c.in_ok-put_stripes.ensures.content.ok told)
          (c.in_ok-put_pieces.ensures.content.ok told)) (part told))) c.flush.ensures.content.refused;
    }
