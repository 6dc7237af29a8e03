use Rattle.std.proofs.Common.{ℕ, pos, List, ◌++◌, get_or, ◌∙◌, subst, rules}
use Rattle.std.proofs.lemmas.List.{take_more}
use Rattle.depot.specs.Content.{IsPartSaid}
use Rattle.depot.proofs.ForCallers.{refused}
use Rattle.depot.proofs.ForCallers.{part_of_more_texts, said_then, texts_more}
use Rattle.depot.specs.Printing.{IsSaidButFor}
use Rattle.field_output.specs.declared.sums.StripeSums.{StripeSums}
use Rattle.mdp_job.specs.Splitting.{stripe_line}
use Rattle.mdp_job.proofs.stripe_lines.put_stripes.Goals as goal

pub returns-in_err-put_pieces-clause-content : goal.returns-in_err-put_pieces-clause-content
returns-in_err-put_pieces-clause-content g c =
    let at = g.D.Depot.content in
    let l = c.loop-stripe in
    let xs = c.args.each.now in
    let none : StripeSums = record { number = pos 0; sums = record { shots = 0; triangles = 0 } } in
    let x = get_or xs l.stripe-index none in
    let more = take_more xs l.stripe-index none c.loop-stripe-test.true in
    record {
      ok = search rules;
      refused = refused c.from_residual.result _
          (λ told. part_of_more_texts (at c.put_pieces.new.depot) stripe_line c.args.buffer.now xs l.stripe-index x more (l.invariant.said told)
          (subst (λ (t : List ℕ). IsPartSaid (at l.depot) (l.buffer ++ t) (at c.put_pieces.new.depot)) c.stripe_pieces.ensures
          (c.in_err-put_pieces.ensures.content.refused told)));
    }

pub loop-stripe-preserved : goal.loop-stripe-preserved
loop-stripe-preserved g c =
    let at = g.D.Depot.content in
    let l = c.loop-stripe in
    let xs = c.args.each.now in
    let none : StripeSums = record { number = pos 0; sums = record { shots = 0; triangles = 0 } } in
    let x = get_or xs l.stripe-index none in
    let more = take_more xs l.stripe-index none c.loop-stripe-test.true in
    record {
      said = λ told. subst (λ (t : List ℕ). IsSaidButFor (at c.args.depot.now) t c.put_pieces.new.buffer
          (at c.put_pieces.new.depot)) (texts_more stripe_line c.args.buffer.now xs l.stripe-index x more)
          (said_then (stripe_line x) (l.invariant.said told)
          (subst (λ (t : List ℕ). IsSaidButFor (at l.depot) (l.buffer ++ t) c.put_pieces.new.buffer
          (at c.put_pieces.new.depot)) c.stripe_pieces.ensures (c.in_ok-put_pieces.ensures.content.ok told)));
      uncounted = c.in_ok-put_pieces.ensures.counts.uncounted ∙ l.invariant.uncounted;
      counted = search rules;
    }
