use Rattle.std.proofs.Common.{ℕ, ◌+◌, List, ◌∷◌, [], ◌++◌, take, sym, ap, subst, ◌∙◌, rules}
use Rattle.std.proofs.lemmas.List.{take_more}
use Rattle.std.proofs.lemmas.List.Sums.{sum_by_more}
use Rattle.shot_writer.specs.Writing.{triangles_in, triangles_of}
use Rattle.shot_listing.specs.Listing.{shot_line}
use Rattle.depot.specs.Printing.{IsSaidButFor}
use Rattle.depot.proofs.ForCallers.{refused, part_of_texts, said_then, texts_more}
use Rattle.shot_listing.proofs.shots.put_shots.Goals as goal

pub returns-in_err-put_line-clause-content : goal.returns-in_err-put_line-clause-content
returns-in_err-put_line-clause-content g c =
    let at = g.D.Depot.content in
    let l = c.loop-shot in
    record {
      ok = search rules;
      refused = refused c.from_residual.result _
          (λ told. part_of_texts (at c.put_line.new.depot) shot_line c.args.buffer.now c.args.shots.now l.shot-index
          (l.invariant.said told) (c.in_err-put_line.ensures.content.refused told));
    }

pub loop-shot-preserved : goal.loop-shot-preserved
loop-shot-preserved g c =
    let at = g.D.Depot.content in
    let l = c.loop-shot in
    let xs = c.args.shots.now in
    let z = c.shot-item.result in
    let more = take_more xs l.shot-index z c.loop-shot-test.true ∙ ap (λ x. take l.shot-index xs ++ x ∷ []) (sym c.shot-item.is) in
    record {
      triangles = ap (λ n. n + c.triangles_in-triangles.result) l.invariant.triangles
          ∙ ap (λ n. triangles_of (take l.shot-index xs) + n) (c.triangles_in-triangles.ensures.value ∙ ap triangles_in c.shot-item.is)
          ∙ sym (sum_by_more triangles_in xs l.shot-index z c.loop-shot-test.true);
      few = search rules;
      said = λ told. subst
          (λ (t : List ℕ). IsSaidButFor (at c.args.depot.now) t c.put_line.new.buffer (at c.put_line.new.depot))
          (texts_more shot_line c.args.buffer.now xs l.shot-index z more)
          (said_then (shot_line z) (l.invariant.said told) (c.in_ok-put_line.ensures.content.ok told));
      uncounted = c.in_ok-put_line.ensures.counts.uncounted ∙ l.invariant.uncounted;
      counted = search rules;
    }
