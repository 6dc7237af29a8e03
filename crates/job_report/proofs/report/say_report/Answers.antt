use Rattle.std.proofs.Common.{ℕ, List, ap, subst, ◌∙◌, flat_map, rules}
use Rattle.std.proofs.lemmas.Result.{on_ok_weaker, on_err_weaker}
use Rattle.std.specs.List.{zip}
use Rattle.depot.specs.Content.{IsPartSaid, with_said}
use Rattle.depot.proofs.ForCallers.{refused, part_of_longer, part_held, say_held, hold_more, said_then}
use Rattle.job_report.specs.Report.{output_line}
use Rattle.job_report.proofs.ReportLemmas.{report_is}
use Rattle.job_report.proofs.report.say_report.Goals as goal

pub returns-in_err-put_pieces-clause-content : goal.returns-in_err-put_pieces-clause-content
returns-in_err-put_pieces-clause-content g c =
    let at = g.D.Depot.content in
    let more = flat_map (output_line c.args.word.now) (zip c.args.outputs.now c.args.sums.now) in
    record {
      ok = search rules;
      refused = refused c.from_residual.result _ (λ told. subst (λ (t : List ℕ). IsPartSaid (at c.args.depot.now) t (at c.put_pieces.new.depot))
          (report_is c.args.format c.args.cells c.args.counts.now c.args.word.now c.args.outputs.now c.args.sums.now
          c.new-buffer.result _ c.new-buffer.ensures c.layout_pieces.ensures)
          (part_of_longer (at c.args.depot.now) (at c.put_pieces.new.depot) _ more (c.in_err-put_pieces.ensures.content.refused told)));
    }

pub returns-in_err-put_outputs-clause-content : goal.returns-in_err-put_outputs-clause-content
returns-in_err-put_outputs-clause-content g c =
    let at = g.D.Depot.content in
    let more = flat_map (output_line c.args.word.now) (zip c.args.outputs.now c.args.sums.now) in
    record {
      ok = search rules;
      refused = refused c.from_residual-in_err-put_outputs.result _
          (λ told. subst (λ (t : List ℕ). IsPartSaid (at c.args.depot.now) t (at c.put_outputs.new.depot))
          (report_is c.args.format c.args.cells c.args.counts.now c.args.word.now c.args.outputs.now c.args.sums.now
          c.new-buffer.result _ c.new-buffer.ensures c.layout_pieces.ensures)
          (part_held (at c.put_outputs.new.depot) (hold_more more (c.in_ok-put_pieces.ensures.content.ok told))
          (c.in_err-put_outputs.ensures.content.refused told)));
    }

pub returns-clause-content : goal.returns-clause-content
returns-clause-content g c =
    let at = g.D.Depot.content in
    let whole = report_is c.args.format c.args.cells c.args.counts.now c.args.word.now c.args.outputs.now
    c.args.sums.now c.new-buffer.result _ c.new-buffer.ensures c.layout_pieces.ensures in
    record {
      ok = on_ok_weaker c.flush.result
          (λ all told. say_held (at c.flush.new.depot)
          (said_then (flat_map (output_line c.args.word.now) (zip c.args.outputs.now c.args.sums.now))
          (c.in_ok-put_pieces.ensures.content.ok told) (c.in_ok-put_outputs.ensures.content.ok told)) (all told) ∙ ap
          (with_said (at c.args.depot.now)) whole) c.flush.ensures.content.ok;
      refused = on_err_weaker c.flush.result (λ part told. subst (λ (t : List ℕ). IsPartSaid (at c.args.depot.now) t (at c.flush.new.depot)) whole
          (part_held (at c.flush.new.depot)
          (said_then (flat_map (output_line c.args.word.now) (zip c.args.outputs.now c.args.sums.now))
          (c.in_ok-put_pieces.ensures.content.ok told) (c.in_ok-put_outputs.ensures.content.ok told)) (part told)))
          c.flush.ensures.content.refused;
    }
