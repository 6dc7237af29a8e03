use Rattle.std.proofs.Common.{ℕ, List, ◌++◌, get_or, refl, subst, ◌∙◌, rules, arith, flat_map}
use Rattle.std.specs.List.{zip}
use Rattle.depot.specs.Content.{IsPartSaid}
use Rattle.depot.proofs.ForCallers.{refused, part_of_more_texts, said_then, texts_more}
use Rattle.depot.specs.Printing.{IsSaidButFor}
use Rattle.deck_text.specs.declared.deck.Output.{Output}
use Rattle.shot_writer.specs.declared.parts.Sums.{Sums}
use Rattle.job_report.specs.Report.{output_line}
use Rattle.job_report.proofs.Zips.{zip_more, zip_all}
use Rattle.job_report.proofs.report.put_outputs.Goals as goal

pub returns-in_err-put_pieces-clause-content : goal.returns-in_err-put_pieces-clause-content
returns-in_err-put_pieces-clause-content g c =
    let at = g.D.Depot.content in
    let l = c.loop-k in
    let os = c.args.outputs.now in
    let ss = c.args.sums.now in
    let x = c.index-outputs-k.result in
    let none : Sums = record { shots = 0; triangles = 0 } in
    let y = get_or ss l.k none in
    record {
      ok = search rules;
      refused = refused c.from_residual.result _
          (λ told. part_of_more_texts (at c.put_pieces.new.depot) (output_line c.args.word.now) c.args.buffer.now
          (zip os ss) l.k (x, y)
          (zip_more os ss l.k x y none c.loop-k-test.true l.invariant.same c.index-outputs-k.is refl)
          (l.invariant.said told)
          (subst (λ (t : List ℕ). IsPartSaid (at l.depot) (l.buffer ++ t) (at c.put_pieces.new.depot))
          c.output_pieces.ensures (c.in_err-put_pieces.ensures.content.refused told)));
    }

pub loop-k-preserved : goal.loop-k-preserved
loop-k-preserved g c =
    let at = g.D.Depot.content in
    let l = c.loop-k in
    let os = c.args.outputs.now in
    let ss = c.args.sums.now in
    let x = c.index-outputs-k.result in
    let none : Sums = record { shots = 0; triangles = 0 } in
    let y = get_or ss l.k none in
    let more = zip_more os ss l.k x y none c.loop-k-test.true l.invariant.same c.index-outputs-k.is refl in
    record {
      said = λ told. subst
          (λ (t : List ℕ). IsSaidButFor (at c.args.depot.now) t c.put_pieces.new.buffer (at c.put_pieces.new.depot))
          (texts_more (output_line c.args.word.now) c.args.buffer.now (zip os ss) l.k (x, y) more)
          (said_then (output_line c.args.word.now (x, y)) (l.invariant.said told)
          (subst (λ (t : List ℕ). IsSaidButFor (at l.depot) (l.buffer ++ t) c.put_pieces.new.buffer
          (at c.put_pieces.new.depot)) c.output_pieces.ensures (c.in_ok-put_pieces.ensures.content.ok told)));
      same = l.invariant.same;
      uncounted = c.in_ok-put_pieces.ensures.counts.uncounted ∙ l.invariant.uncounted;
      counted = search rules;
    }

pub returns-clause-content : goal.returns-clause-content
returns-clause-content g c = record {
  ok = λ told.
      subst (λ (xs : List (Output × Sums)). IsSaidButFor (g.D.Depot.content c.args.depot.now)
      (c.args.buffer.now ++ flat_map (output_line c.args.word.now) xs) c.loop-k.buffer
      (g.D.Depot.content c.loop-k.depot))
      (zip_all c.args.outputs.now c.args.sums.now c.loop-k.k (omega arith)) (c.loop-k.invariant.said told);
  refused = search rules;
}
