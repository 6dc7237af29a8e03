-- The part of an output's area in some rows, from a part in more rows.
use Rattle.std.proofs.Common.{◌≡◌, ℕ, arith, ◌∙◌, List}
use Rattle.std.proofs.lemmas.Int.{ints, by_lt_z}
use Rattle.half_grid.specs.Trapezoids.{Trapezoid, CoversExactly, count_in}
use Rattle.half_grid.specs.Windows.{RowRange}
use Rattle.half_grid.specs.declared.plane.Tile.{Tile}
use Rattle.bool_ops.specs.Operations.{IsInRows, IsJoinedOf}
use Rattle.deck_plan.specs.Areas.{IsInBand}
use Rattle.deck_plan.specs.Plans.{Planned}
use Rattle.band_areas.specs.Cuts.{IsCutTo}
use Rattle.band_areas.specs.Parts.{IsWithin}

module _ (p : Planned) (k : ℕ) (window rows : RowRange) (inside : IsWithin rows window) where
  abbrev has : RowRange → Tile → Type 0
  has w t = IsInBand p.cells p.top p.deck k w t

  wider : (t : Tile) → has rows t → has window t
  wider t h =
      let from = h.rows.from in
      let below = h.rows.below in
      record { rows = record { from = omega (arith, ints, from, inside.from); below = omega (arith, ints, below, inside.to) }; area = h.area }

  narrower : (t : Tile) → IsInRows rows t → has window t → has rows t
  narrower t r h = record { rows = r; area = h.area }

  never : (traps part : List Trapezoid) → CoversExactly traps (has window) → IsCutTo rows traps part → (t : Tile) → (has rows t → ⊥) → count_in part t ≡ 0
  never traps part covers cut t out =
      by_lt_z t.j rows.y0
      (λ low. cut.outside t (λ r. (let from = r.from in omega (arith, ints, low, from))))
      (λ from. by_lt_z t.j rows.y1
      (λ below. (let r : IsInRows rows t = record { from = from; below = below } in cut.inside t r ∙ covers.never t (λ h. out (narrower t r h))))
      (λ high. cut.outside t (λ r. (let below = r.below in omega (arith, ints, high, below)))))

  pub part_joined : (traps part : List Trapezoid) → IsJoinedOf window (has window) traps → IsCutTo rows traps part → IsJoinedOf rows (has rows) part
  part_joined traps part joined cut = record {
    joined = cut.joined;
    covers = record {
      once = λ t h. cut.inside t h.rows ∙ joined.covers.once t (wider t h);
      never = never traps part joined.covers cut;
    };
  }
