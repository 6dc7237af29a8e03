use Rattle.std.proofs.Common.{rules, ◌≡◌, ◌∙◌, ap, sym, subst, arith}
use Rattle.std.proofs.lemmas.Int.{ints}
use Rattle.std.proofs.lemmas.List.Elements.{All-push}
use Rattle.half_grid.specs.Windows.{RowRange}
use Rattle.band_areas.specs.Parts.{IsPart, AreParts}
use Rattle.band_areas.proofs.RowLemmas.{upper_band, lower_band, upper_within, lower_within, still_within, gap_falls}
use Rattle.band_areas.proofs.parts.narrowed.Goals as goal

pub loop-band-init : goal.loop-band-init
loop-band-init c = record { sound = c.requires.sound; within = c.requires.within; part = λ p k h. h; kept = λ p k h g. g }

pub middle-row-requires-clause-window : goal.middle-row-requires-clause-window
middle-row-requires-clause-window c = c.loop-band.invariant.sound.rows

pub part_in-requires-clause-sound : goal.part_in-requires-clause-sound
part_in-requires-clause-sound c = c.loop-band.invariant.sound

pub part_in-requires-clause-rows : goal.part_in-requires-clause-rows
part_in-requires-clause-rows c =
    let i = c.loop-band.invariant in
    let inside = i.within.from in
    let some = c.requires.band.has_rows in
    let low = c.middle-row.ensures.low in
    upper_band c.loop-band.part.rows c.upper.result c.middle-row.result.y c.upper.ensures i.sound.rows
    (omega (arith, ints, inside, some, low)) c.middle-row.ensures.high

pub part_in-requires-clause-within : goal.part_in-requires-clause-within
part_in-requires-clause-within c =
    let i = c.loop-band.invariant in
    let inside = i.within.from in
    let some = c.requires.band.has_rows in
    let low = c.middle-row.ensures.low in
    upper_within c.loop-band.part.rows c.upper.result c.middle-row.result.y c.upper.ensures (omega (arith, ints, inside, some, low))

pub returns-in_err-rest-clause-kept : goal.returns-in_err-rest-clause-kept
returns-in_err-rest-clause-kept c = λ p k h g. c.loop-band.invariant.kept p k h g

pub returns-in_err-push-clause-kept : goal.returns-in_err-push-clause-kept
returns-in_err-push-clause-kept c = λ p k h g.
    let same : c.push.new.self.items ≡ c.loop-band.parts.items = search rules in
    subst (AreParts p k) (sym same) (c.loop-band.invariant.kept p k h g)

pub lower-requires : goal.lower-requires
lower-requires c =
    let inside = c.loop-band.invariant.within.from in
    let some = c.requires.band.has_rows in
    let low = c.middle-row.ensures.low in
    omega (arith, ints, inside, some, low)

pub part_in-requires-in-loop-band-clause-sound : goal.part_in-requires-in-loop-band-clause-sound
part_in-requires-in-loop-band-clause-sound c = c.loop-band.invariant.sound

pub part_in-requires-in-loop-band-clause-rows : goal.part_in-requires-in-loop-band-clause-rows
part_in-requires-in-loop-band-clause-rows c =
    let i = c.loop-band.invariant in
    let inside = i.within.from in
    let some = c.requires.band.has_rows in
    let low = c.middle-row.ensures.low in
    let high = c.middle-row.ensures.high in
    lower_band c.loop-band.part.rows c.lower.result c.middle-row.result.y c.lower.ensures i.sound.rows
    (omega (arith, ints, inside, some, low)) (omega (arith, ints, high))

pub part_in-requires-in-loop-band-clause-within : goal.part_in-requires-in-loop-band-clause-within
part_in-requires-in-loop-band-clause-within c =
    let high = c.middle-row.ensures.high in
    lower_within c.loop-band.part.rows c.lower.result c.middle-row.result.y c.lower.ensures (omega (arith, ints, high))

pub returns-in_err-part-clause-kept : goal.returns-in_err-part-clause-kept
returns-in_err-part-clause-kept c = λ p k h g.
    let i = c.loop-band.invariant in
    subst (AreParts p k) (sym c.in_ok-push.ensures.items)
    (All-push (IsPart p k) c.loop-band.parts.items _ (i.kept p k h g)
    (c.in_ok-rest.ensures.part p k (i.part p k h)))

pub loop-band-smaller : goal.loop-band-smaller
loop-band-smaller c =
    let rows : c.in_ok-part.part.rows ≡ c.lower.result = c.in_ok-part.ensures.rows in
    let top = ap (λ (w : RowRange). w.y1) (rows ∙ c.lower.ensures) in
    let low = c.middle-row.ensures.low in
    let high = c.middle-row.ensures.high in
    gap_falls c.args.band.y1 c.in_ok-part.part.rows.y1 c.loop-band.part.rows.y1 (omega (arith, ints, top, low)) (omega (arith, ints, top, high))

pub loop-band-preserved : goal.loop-band-preserved
loop-band-preserved c =
    let i = c.loop-band.invariant in
    record {
      sound = c.in_ok-part.ensures.sound;
      within = still_within c.loop-band.part.rows c.in_ok-part.part.rows c.args.band c.middle-row.result.y
          (c.in_ok-part.ensures.rows ∙ c.lower.ensures) i.within c.middle-row.ensures.low;
      part = λ p k h. c.in_ok-part.ensures.part p k (i.part p k h);
      kept = λ p k h g. subst (AreParts p k) (sym c.in_ok-push.ensures.items)
          (All-push (IsPart p k) c.loop-band.parts.items _ (i.kept p k h g)
          (c.in_ok-rest.ensures.part p k (i.part p k h)));
    }

pub from_bottom-requires-clause-sound : goal.from_bottom-requires-clause-sound
from_bottom-requires-clause-sound c = c.loop-band.invariant.sound

pub from_bottom-requires-clause-within : goal.from_bottom-requires-clause-within
from_bottom-requires-clause-within c = c.loop-band.invariant.within

pub returns-clause-part : goal.returns-clause-part
returns-clause-part c = λ p k h. c.from_bottom.ensures.part p k (c.loop-band.invariant.part p k h)

pub returns-clause-kept : goal.returns-clause-kept
returns-clause-kept c = λ p k h g. c.loop-band.invariant.kept p k h g
