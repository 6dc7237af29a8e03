use Rattle.std.proofs.Common.{◌∙◌, List, [], ◌++◌, arith, refl, sym, ap, subst, IsSome}
use Rattle.depot.proofs.ForCallers.{refused}
use Rattle.depot.specs.Content.{Content, with_written, IsPartWritten}
use Rattle.half_grid.specs.Trapezoids.{Trapezoid}
use Rattle.half_grid.specs.Windows.{RowRange}
use Rattle.layout_model.specs.declared.pair.Pair.{Pair}
use Rattle.deck_plan.specs.Plans.{IsBandOf}
use Rattle.band_areas.specs.Strips.{HasGiven, given_by}
use Rattle.band_areas.proofs.ForCallers.{given_first}
use Rattle.shot_writer.specs.Writing.{AreSumsAfter, records_of, triangles_of}
use Rattle.shot_writer.specs.WriterView.{pair_of, sums_of}
use Rattle.shot_output.specs.Bands.{band_shots}
use Rattle.shot_output.proofs.BandLemmas.{content_more, sums_more, part_given, room_left, part_put}
use Rattle.shot_output.proofs.bands.put_band.Goals as goal

pub loop-strips-init : goal.loop-strips-init
loop-strips-init g c = record {
  given = [];
  has = c.new-strips.ensures.given c.args.plan.now c.args.output;
  band = c.new-strips.ensures.band;
  content = λ told. refl;
  summed = record { shots = omega arith; triangles = omega arith };
  areas = c.requires.areas;
  pair = refl;
  kept = c.requires.kept;
  current = c.requires.current;
  uncounted = refl;
}

pub returns-in_err-traps-clause-refused : goal.returns-in_err-traps-clause-refused
returns-in_err-traps-clause-refused g c =
    let i = c.loop-strips.invariant in
    let p = c.args.plan.now in
    let k = c.args.output in
    let whole = c.has_lists.ensures c.args.band c.requires.band.is_band in
    let own = subst (λ (w : RowRange). IsBandOf p k w whole.0) (sym i.band) whole.1 in
    let first = given_first p k c.loop-strips.strips i.given whole.0 i.has c.has_lists.ensures own in
    refused c.from_residual.result _ (record {
      traps = whole.0;
      joined = whole.1;
      content = λ told. part_given p k (pair_of c.args.writer.now) (g.D.Depot.content c.args.depot.now) (g.D.Depot.content c.loop-strips.depot)
          i.given first.0 whole.0 first.1 (i.content told);
    })

pub put_traps-requires-clause-room : goal.put_traps-requires-clause-room
put_traps-requires-clause-room g c =
    let i = c.loop-strips.invariant in
    let p = c.args.plan.now in
    let k = c.args.output in
    let more = c.in-Some.traps.items in
    let whole = c.has_lists.ensures c.args.band c.requires.band.is_band in
    let own = subst (λ (w : RowRange). IsBandOf p k w whole.0) (sym (c.in_ok-traps.ensures.band ∙ i.band)) whole.1 in
    let then : HasGiven p k c.next_traps.new.strips (i.given ++ more) =
    subst (λ next. HasGiven p k c.next_traps.new.strips (i.given ++ given_by next)) c.in-Some.is (c.in_ok-traps.ensures.given i.given i.has) in
    let first = given_first p k c.next_traps.new.strips (i.given ++ more) whole.0 then c.has_lists.ensures own in
    let left = room_left p k i.given more first.0 whole.0 first.1 (sums_of c.args.writer.now) (sums_of c.loop-strips.writer)
    (c.requires.room whole.0 whole.1) i.summed in
    let same = ap (λ (traps : List Trapezoid). triangles_of (band_shots p traps)) c.as_slice.ensures.value in
    omega (arith, left, same)

pub returns-in_err-put_traps-clause-refused : goal.returns-in_err-put_traps-clause-refused
returns-in_err-put_traps-clause-refused g c =
    let i = c.loop-strips.invariant in
    let p = c.args.plan.now in
    let k = c.args.output in
    let more = c.in-Some.traps.items in
    let whole = c.has_lists.ensures c.args.band c.requires.band.is_band in
    let own = subst (λ (w : RowRange). IsBandOf p k w whole.0) (sym (c.in_ok-traps.ensures.band ∙ i.band)) whole.1 in
    let then : HasGiven p k c.next_traps.new.strips (i.given ++ more) =
    subst (λ next. HasGiven p k c.next_traps.new.strips (i.given ++ given_by next)) c.in-Some.is (c.in_ok-traps.ensures.given i.given i.has) in
    let first = given_first p k c.next_traps.new.strips (i.given ++ more) whole.0 then c.has_lists.ensures own in
    refused c.from_residual-in_err-put_traps.result _ (record {
      traps = whole.0;
      joined = whole.1;
      content = λ told.
          let part = c.in_err-put_traps.ensures.content.refused told in
          let paired = subst (λ (pair : Pair). IsPartWritten (g.D.Depot.content c.loop-strips.depot)
          (records_of pair (band_shots p c.as_slice.result.now)) (g.D.Depot.content c.put_traps.new.depot)) i.pair part in
          let listed = subst (λ (traps : List Trapezoid). IsPartWritten (g.D.Depot.content c.loop-strips.depot)
          (records_of (pair_of c.args.writer.now) (band_shots p traps)) (g.D.Depot.content c.put_traps.new.depot)) c.as_slice.ensures.value paired in
          part_put p k i.given more first.0 whole.0 first.1 (pair_of c.args.writer.now) (g.D.Depot.content c.args.depot.now)
          (g.D.Depot.content c.loop-strips.depot) (g.D.Depot.content c.put_traps.new.depot) (i.content told) listed;
    })

pub loop-strips-preserved : goal.loop-strips-preserved
loop-strips-preserved g c =
    let i = c.loop-strips.invariant in
    let p = c.args.plan.now in
    let k = c.args.output in
    let more = c.in-Some.traps.items in
    let then : HasGiven p k c.next_traps.new.strips (i.given ++ more) =
    subst (λ next. HasGiven p k c.next_traps.new.strips (i.given ++ given_by next)) c.in-Some.is (c.in_ok-traps.ensures.given i.given i.has) in
    let shots = ap (λ (traps : List Trapezoid). band_shots p traps) c.as_slice.ensures.value in
    record {
      given = i.given ++ more;
      has = then;
      band = c.in_ok-traps.ensures.band ∙ i.band;
      content = λ told.
          c.note.ensures.content
          ∙ content_more p k (pair_of c.args.writer.now) (g.D.Depot.content c.args.depot.now) (g.D.Depot.content c.loop-strips.depot)
          (g.D.Depot.content c.put_traps.new.depot) i.given more (i.content told)
          (c.in_ok-put_traps.ensures.content.ok told
          ∙ ap (λ (pair : Pair). with_written (g.D.Depot.content c.loop-strips.depot) (records_of pair (band_shots p c.as_slice.result.now))) i.pair
          ∙ ap (λ (list : List Trapezoid). with_written (g.D.Depot.content c.loop-strips.depot) (records_of (pair_of c.args.writer.now) list)) shots);
      summed = sums_more p k (sums_of c.args.writer.now) (sums_of c.loop-strips.writer) (sums_of c.put_traps.new.writer) i.given more i.summed
          (subst (λ (list : List Trapezoid). AreSumsAfter (sums_of c.loop-strips.writer) list (sums_of c.put_traps.new.writer)) shots
          c.in_ok-put_traps.ensures.sums);
      areas = c.in_ok-traps.ensures.areas;
      pair = c.put_traps.ensures.pair ∙ i.pair;
      kept = c.in_ok-put_traps.ensures.kept;
      current = λ told. subst IsSome (sym (ap (λ (now : Content). now.current) c.note.ensures.content ∙ c.put_traps.ensures.current told)) (i.current told);
      uncounted = c.note.ensures.counts ∙ c.in_ok-put_traps.ensures.counts.uncounted ∙ i.uncounted;
    }
