use Rattle.std.proofs.Common.{◌≡◌, false, int_lt, refl, sym, subst, ◌∙◌, arith, rules}
use Rattle.std.proofs.lemmas.List.Sorted.{IsPartitionPoint-from_clause}
use Rattle.half_grid.specs.Trapezoids.{Trapezoid}
use Rattle.deck_plan.specs.Stacks.{goes_on}
use Rattle.band_areas.specs.Cuts.{top_place}
use Rattle.band_areas.proofs.GrowingLemmas.{places_parted, none_goes, other_row, same_default}
use Rattle.band_areas.proofs.stacks.number_below.Goals.{else-at-growing-via-then-at-growing+else-goes_on, else-at-growing-via-else-at-growing}
use Rattle.band_areas.proofs.stacks.number_below.Goals as goal

pub returns-then-y0-bottom : goal.returns-then-y0-bottom
returns-then-y0-bottom c = other_row c.args.growing.now c.args.above.now c.args.bottom.y c.requires.tops
    (λ e. c.if-y0-bottom.true (let same : c.y0.result ≡ c.args.bottom.y = c.y0.ensures.value ∙ e in rw same refl))

pub returns : goal.returns
returns c =
    let growing = c.args.growing.now in
    let above = c.args.above.now in
    let v = c.place_below-place.result.at in
    let at = c.partition_point-at.result in
    let point = IsPartitionPoint-from_clause (λ (z : Trapezoid). int_lt (top_place z) v) growing at c.partition_point-at.ensures.partitioned
    (places_parted growing v c.requires.growing) (λ a r q k. search rules) in
    none_goes growing above v at c.requires.growing c.place_below-place.ensures point (λ e inside.
    elim c.else-at-growing.branch [
      | else-at-growing-via-then-at-growing+else-goes_on w ↦
          subst (λ (z : Trapezoid). goes_on z above ≡ false) (w.index-growing-at.is ∙ same_default growing at w.index-growing-at.result e inside)
          (sym w.goes_on.ensures ∙ w.if-goes_on.false)
      | else-at-growing-via-else-at-growing w ↦ absurd (omega (arith, inside, w.if-at-growing.false))
    ])
