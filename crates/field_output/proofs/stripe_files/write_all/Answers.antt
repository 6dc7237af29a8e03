use Rattle.std.proofs.Common.{◌≡◌, ◌+ℤ◌, pos, ℕ, ap, subst, sym, refl, ◌∙◌, arith}
use Rattle.depot.specs.Content.{Content, IsPartMade}
use Rattle.depot.proofs.ForCallers.{NeverFall-trans, refused}
use Rattle.geo_stream.specs.Flattened.{end_to_end}
use Rattle.field_split.specs.Fields.{IsFieldSize}
use Rattle.field_output.specs.Lists.{lists_from, list_at}
use Rattle.field_output.specs.Stripes.{stripe_name, stripe_text, sums_from, sums_of, with_stripe_files}
use Rattle.field_output.proofs.NextLemmas.{content_more, sums_step, shots_fit, triangles_fit}
use Rattle.field_output.proofs.stripe_files.write_all.Goals as goal

pub loop-place-init : goal.loop-place-init
loop-place-init g c = record {
  room = c.requires.room;
  content = λ told. refl;
  all = refl;
  uncounted = refl;
  counted = record { read_faults = omega arith; write_faults = omega arith; refused = omega arith };
}

pub returns-in_err-sums-clause-refused : goal.returns-in_err-sums-clause-refused
returns-in_err-sums-clause-refused g c = refused c.from_residual.result _ (λ told.
    let span = c.args.span in
    let at = g.D.Depot.content in
    record {
      place = c.loop-place.place;
      within = c.loop-place-test.true;
      files = subst (λ (x : Content). IsPartMade x (stripe_name c.args.base.now (span.first +ℤ pos c.loop-place.place)) (stripe_text c.args.head
          (list_at span.size c.args.shots.now span.first c.loop-place.place)) (at c.write_next.new.depot))
          (c.loop-place.invariant.content told) (c.in_err-sums.ensures.content.refused told);
    })

pub added-all-requires-clause-shots : goal.added-all-requires-clause-shots
added-all-requires-clause-shots g c =
    let span = c.args.span in
    shots_fit span.size c.args.shots.now span.first c.loop-place.place (subst IsFieldSize
    (sym c.requires.size) c.requires.sized) c.requires.shots c.requires.few (omega
    (arith, span.few, c.loop-place-test.true)) c.loop-place.all c.in_ok-sums.sums c.loop-place.invariant.all c.in_ok-sums.ensures.sums

pub added-all-requires-clause-triangles : goal.added-all-requires-clause-triangles
added-all-requires-clause-triangles g c =
    let span = c.args.span in
    triangles_fit span.size c.args.shots.now span.first c.loop-place.place (subst IsFieldSize
    (sym c.requires.size) c.requires.sized) c.requires.shots c.requires.few (omega
    (arith, span.few, c.loop-place-test.true)) c.loop-place.all c.in_ok-sums.sums c.loop-place.invariant.all c.in_ok-sums.ensures.sums

pub loop-place-preserved : goal.loop-place-preserved
loop-place-preserved g c =
    let span = c.args.span in
    let i = c.loop-place.invariant in
    let at = g.D.Depot.content in
    record {
      room = c.in_ok-sums.ensures.room;
      content = λ told. content_more span.size c.args.shots.now span.first c.loop-place.place (at c.args.depot.now) (at c.loop-place.depot)
          (at c.write_next.new.depot) c.args.base.now c.args.head (i.content told) (c.in_ok-sums.ensures.content.ok told);
      all = sums_step span.size c.args.shots.now span.first c.loop-place.place c.loop-place.all c.in_ok-sums.sums c.added-all.result i.all
          c.in_ok-sums.ensures.sums c.added-all.ensures.shots c.added-all.ensures.triangles;
      uncounted = c.in_ok-sums.ensures.counts.uncounted ∙ i.uncounted;
      counted = NeverFall-trans _ _ _ i.counted c.write_next.ensures.counts.counted;
    }

pub returns-clause-ok : goal.returns-clause-ok
returns-clause-ok g c = λ told.
    let span = c.args.span in
    let end : c.loop-place.place ≡ span.count = omega (arith, c.loop-place.auto.place-end, c.loop-place-test.false) in
    let at = g.D.Depot.content in
    c.loop-place.invariant.content told ∙ ap (λ (n : ℕ). with_stripe_files (at c.args.depot.now) c.args.base.now c.args.head span.first
    (lists_from span.size c.args.shots.now span.first n)) end

pub returns-clause-each : goal.returns-clause-each
returns-clause-each g c =
    let span = c.args.span in
    let end : c.loop-place.place ≡ span.count = omega (arith, c.loop-place.auto.place-end, c.loop-place-test.false) in
    c.loop-place.invariant.room.each ∙ ap (λ (n : ℕ). sums_from span.first (lists_from span.size c.args.shots.now span.first n)) end

pub returns-clause-all : goal.returns-clause-all
returns-clause-all g c =
    let span = c.args.span in
    let end : c.loop-place.place ≡ span.count = omega (arith, c.loop-place.auto.place-end, c.loop-place-test.false) in
    c.loop-place.invariant.all ∙ ap (λ (n : ℕ). sums_of (end_to_end (lists_from span.size c.args.shots.now span.first n))) end
