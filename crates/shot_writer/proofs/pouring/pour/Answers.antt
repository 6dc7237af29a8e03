use Rattle.std.proofs.Common.{◌++◌, ◌∷◌, [], ℕ, ap, subst, append_assoc, List, arith, rules, sym, ◌∙◌}
use Rattle.depot.specs.Content.{Content}
use Rattle.depot.proofs.ForCallers.{NeverFall-trans, refused}
use Rattle.shot_writer.specs.Writing.{IsWrittenButFor}
use Rattle.shot_writer.proofs.SoFar.{one_more, refused_part, all_poured}
use Rattle.shot_writer.proofs.pouring.pour.Goals as goal

pub returns-in_err-put_bytes-clause-content : goal.returns-in_err-put_bytes-clause-content
returns-in_err-put_bytes-clause-content g c = λ items stands. record {
  ok = search rules;
  refused = refused c.from_residual.result _
      (λ told. refused_part (c.loop-shot.invariant.poured items stands)
      (g.D.Depot.content c.put_bytes.new.depot) told (c.in_err-put_bytes.ensures.content.refused told));
}

pub returns-in_err-put_bytes-clause-left : goal.returns-in_err-put_bytes-clause-left
returns-in_err-put_bytes-clause-left g c = λ items stands.
    let p = c.loop-shot.invariant.poured items stands in
    let first = c.in-Some.ensures.first p.rest p.stands in
    record {
      front = p.taken ++ c.in-Some.shot ∷ [];
      rest = first.0;
      split = p.split ∙ ap (λ r. p.taken ++ r) first.1
          ∙ sym (append_assoc p.taken (c.in-Some.shot ∷ []) first.0);
      stands = first.2;
    }

pub loop-shot-preserved : goal.loop-shot-preserved
loop-shot-preserved g c = record {
  poured = λ items stands.
      let p = c.loop-shot.invariant.poured items stands in
      let first = c.in-Some.ensures.first p.rest p.stands in
      one_more p c.in-Some.shot first.0 c.next.new.self first.1 first.2
      (g.D.Depot.content c.put_bytes.new.depot) c.put_bytes.new.buffer
      (λ told. subst (λ (l : List ℕ). IsWrittenButFor (g.D.Depot.content c.loop-shot.depot)
      (c.loop-shot.buffer ++ l) c.put_bytes.new.buffer (g.D.Depot.content c.put_bytes.new.depot))
      (c.bytes.ensures.value ∙ c.encode.ensures) (c.in_ok-put_bytes.ensures.content.ok told)) c.triangles_in.result
      c.triangles_in.ensures.value;
  fewer = omega (arith, c.loop-shot.invariant.fewer, c.triangles_in.ensures.some);
  uncounted = c.in_ok-put_bytes.ensures.counts.uncounted ∙ c.loop-shot.invariant.uncounted;
  counted = NeverFall-trans _ _ _ c.loop-shot.invariant.counted c.put_bytes.ensures.counts.counted;
}

pub returns-in_err-flush-clause-content : goal.returns-in_err-flush-clause-content
returns-in_err-flush-clause-content g c = λ items stands. record {
  ok = search rules;
  refused = refused c.from_residual-in_err-flush.result _
      (λ told. refused_part (c.loop-shot.invariant.poured items stands) (g.D.Depot.content c.flush.new.depot) told
      (c.in_err-flush.ensures.content.refused told));
}

pub returns-clause-content : goal.returns-clause-content
returns-clause-content g c = λ items stands. record {
  ok = λ told. let p = c.loop-shot.invariant.poured items stands in
      all_poured p (c.in_default.ensures.first p.rest p.stands).0 (g.D.Depot.content c.flush.new.depot) told (c.in_ok-flush.ensures.content.ok told);
  refused = search rules;
}

pub returns-in_err-put_bytes-clause-current : goal.returns-in_err-put_bytes-clause-current
returns-in_err-put_bytes-clause-current g c = λ told.
    ap (λ (now : Content). now.current)
    (refused_part (c.loop-shot.invariant.poured c.requires.list.0 c.requires.list.1)
    (g.D.Depot.content c.put_bytes.new.depot) told (c.in_err-put_bytes.ensures.content.refused told)).2

pub returns-in_err-flush-clause-current : goal.returns-in_err-flush-clause-current
returns-in_err-flush-clause-current g c = λ told.
    ap (λ (now : Content). now.current)
    (refused_part (c.loop-shot.invariant.poured c.requires.list.0 c.requires.list.1)
    (g.D.Depot.content c.flush.new.depot) told (c.in_err-flush.ensures.content.refused told)).2

pub returns-clause-current : goal.returns-clause-current
returns-clause-current g c = λ told. ap (λ (now : Content). now.current) ((returns-clause-content g c c.requires.list.0 c.requires.list.1).ok told)
