use Rattle.deck_plan.specs.Plans.{planned}
use Rattle.band_areas.specs.Parts.{AreAreasOf}
use Rattle.band_areas.proofs.tests.bands_together.Given as goal

-- the areas are those of the plan's first output
abbrev pub invariant-loop-y0 : goal.invariant-loop-y0
invariant-loop-y0 g l = AreAreasOf (planned l.plan-inside.deck.now l.plan-inside.tree.now) 0 l.areas
