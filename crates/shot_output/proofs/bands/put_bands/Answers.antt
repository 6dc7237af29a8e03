use Rattle.std.proofs.Common.{◌≡◌, ◌+ℤ◌, arith, ap, sym, subst, ◌∙◌, refl}
use Rattle.std.proofs.lemmas.Int.{ints}
use Rattle.depot.proofs.ForCallers.{refused}
use Rattle.half_grid.specs.Windows.{RowRange, row_range}
use Rattle.deck_text.specs.declared.deck.Deck.{Deck}
use Rattle.layout_model.specs.declared.pair.Pair.{Pair}
use Rattle.shot_writer.specs.WriterView.{pair_of, sums_of}
use Rattle.deck_plan.specs.Bands.{band}
use Rattle.shot_output.specs.Bands.{IsBandPut, IsBandPart, IsPutBelow}
use Rattle.shot_output.proofs.Gaps.{gap_falls}
use Rattle.shot_output.proofs.PutLemmas.{put_none, put_next, put_part, put_all, put_told, room, band_within, band_height}
use Rattle.shot_output.proofs.bands.put_bands.Goals as goal

pub loop-deck-init : goal.loop-deck-init
loop-deck-init g c =
    let near = c.requires.narrow in
    let below = c.first_band-band.ensures.below in
    record {
      put = put_told c.note.ensures.content
          (put_none c.args.plan.now c.args.output c.first_band-band.result c.args.rows c.first_band-band.ensures.band.0
          (pair_of c.args.writer.now) g.D.Depot.tells (g.D.Depot.content c.args.depot.now)
          (sums_of c.args.writer.now)
          (c.first_band-band.ensures.band.1 ∙ ap
          (λ (d : Deck). band d.band c.first_band-band.ensures.band.0) c.deck-deck.ensures.value) below
          c.requires.outside c.requires.sums);
      areas = c.new-areas.ensures;
      pair = refl;
      kept = c.requires.kept;
      low = c.first_band-band.ensures.low;
      high = omega (arith, ints, below, near.window, near.high);
      uncounted = c.note.ensures.counts;
    }

pub put_band-requires-clause-band : goal.put_band-requires-clause-band
put_band-requires-clause-band g c =
    let i = c.loop-deck.invariant in
    band_within c.args.plan.now.deck i.put.m c.loop-deck.band c.requires.rules.some_rows c.requires.few i.low i.high i.put.at

pub put_band-requires-clause-room : goal.put_band-requires-clause-room
put_band-requires-clause-room g c =
    let i = c.loop-deck.invariant in
    room c.args.plan.now c.args.output c.loop-deck.band (pair_of c.args.writer.now) g.D.Depot.tells
    (g.D.Depot.content c.args.depot.now) (g.D.Depot.content c.loop-deck.depot)
    (sums_of c.loop-deck.writer) i.put c.requires.rules

pub returns-in_err-put_band-clause-refused : goal.returns-in_err-put_band-clause-refused
returns-in_err-put_band-clause-refused g c =
    let i = c.loop-deck.invariant in
    refused c.from_residual.result _
    (put_part c.args.plan.now c.args.output c.requires.rules c.requires.few c.args.rows c.requires.narrow c.requires.outside
    c.has_lists.ensures c.loop-deck.band (pair_of c.args.writer.now) g.D.Depot.tells
    (g.D.Depot.content c.args.depot.now) (g.D.Depot.content c.loop-deck.depot) (sums_of c.loop-deck.writer) i.put i.low
    (g.D.Depot.content c.put_band.new.depot)
    (subst (λ (pair : Pair). IsBandPart c.args.plan.now c.args.output c.loop-deck.band pair g.D.Depot.tells
    (g.D.Depot.content c.loop-deck.depot) (g.D.Depot.content c.put_band.new.depot)) i.pair
    c.in_err-put_band.ensures.refused))

pub next_band-band-requires-clause-height : goal.next_band-band-requires-clause-height
next_band-band-requires-clause-height g c =
    let i = c.loop-deck.invariant in
    band_height c.args.plan.now.deck i.put.m c.loop-deck.band i.put.at
    ∙ ap (λ (d : Deck). c.loop-deck.band.y0 +ℤ d.band) (sym c.deck-deck.ensures.value)

pub loop-deck-smaller : goal.loop-deck-smaller
loop-deck-smaller g c =
    let i = c.loop-deck.invariant in
    let height = band_height c.args.plan.now.deck i.put.m c.loop-deck.band i.put.at in
    let low : c.next_band-band.result.y0 ≡ c.loop-deck.band.y1 = ap (λ (w : RowRange). w.y0) c.next_band-band.ensures in
    let test = c.loop-deck-test.true in
    gap_falls c.loop-deck.band.y0 c.args.rows.y1 c.next_band-band.result.y0
    (omega (arith, ints, low, height, c.requires.rules.some_rows))
    (omega (arith, ints, test, c.y0.ensures.value, c.y1.ensures.value))

pub loop-deck-preserved : goal.loop-deck-preserved
loop-deck-preserved g c =
    let i = c.loop-deck.invariant in
    let near = c.requires.narrow in
    let height = band_height c.args.plan.now.deck i.put.m c.loop-deck.band i.put.at in
    let low : c.next_band-band.result.y0 ≡ c.loop-deck.band.y1 = ap (λ (w : RowRange). w.y0) c.next_band-band.ensures in
    let test = c.loop-deck-test.true in
    let done : IsBandPut c.args.plan.now c.args.output c.loop-deck.band (pair_of c.args.writer.now) g.D.Depot.tells
    (g.D.Depot.content c.loop-deck.depot) (g.D.Depot.content c.put_band.new.depot) (sums_of c.loop-deck.writer)
    (sums_of c.put_band.new.writer) =
    subst (λ (pair : Pair). IsBandPut c.args.plan.now c.args.output c.loop-deck.band pair g.D.Depot.tells
    (g.D.Depot.content c.loop-deck.depot) (g.D.Depot.content c.put_band.new.depot) (sums_of c.loop-deck.writer)
    (sums_of c.put_band.new.writer)) i.pair c.in_ok-put_band.ensures.ok in
    let next : row_range c.loop-deck.band.y1 (c.loop-deck.band.y1 +ℤ c.args.plan.now.deck.band) ≡ c.next_band-band.result =
    sym (c.next_band-band.ensures ∙ ap (λ (d : Deck). row_range c.loop-deck.band.y1 (c.loop-deck.band.y1 +ℤ d.band)) c.deck-deck.ensures.value) in
    record {
      put = subst (λ (w : RowRange). IsPutBelow c.args.plan.now c.args.output w
          (pair_of c.args.writer.now) g.D.Depot.tells (g.D.Depot.content c.args.depot.now)
          (g.D.Depot.content c.put_band.new.depot) (sums_of c.put_band.new.writer)) next
          (put_next c.args.plan.now c.args.output c.loop-deck.band (pair_of c.args.writer.now) g.D.Depot.tells
          (g.D.Depot.content c.args.depot.now) (g.D.Depot.content c.loop-deck.depot)
          (sums_of c.loop-deck.writer) i.put (g.D.Depot.content c.put_band.new.depot)
          (sums_of c.put_band.new.writer) done);
      areas = c.put_band.ensures.areas;
      pair = c.put_band.ensures.pair ∙ i.pair;
      kept = c.in_ok-put_band.ensures.kept;
      low = omega (arith, ints, low, height, i.low, c.requires.rules.some_rows);
      high = omega (arith, ints, low, height, test, c.y0.ensures.value, c.y1.ensures.value, near.high, c.requires.few);
      uncounted = c.in_ok-put_band.ensures.counts.uncounted ∙ i.uncounted;
    }

pub returns-clause-ok : goal.returns-clause-ok
returns-clause-ok g c =
    let i = c.loop-deck.invariant in
    let test = c.loop-deck-test.false in
    put_all c.args.plan.now c.args.output c.loop-deck.band (pair_of c.args.writer.now) g.D.Depot.tells
    (g.D.Depot.content c.args.depot.now) (g.D.Depot.content c.loop-deck.depot)
    (sums_of c.loop-deck.writer) i.put c.args.rows c.requires.outside
    (omega (arith, ints, test, c.y0.ensures.value, c.y1.ensures.value))
