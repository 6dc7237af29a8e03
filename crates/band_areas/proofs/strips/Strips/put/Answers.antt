use Rattle.std.proofs.Common.{rules, List, sym, subst, refl, FitsSigned, w64}
use Rattle.std.proofs.lemmas.Int.{to_z-of_z}
use Rattle.half_grid.specs.Trapezoids.{Trapezoid}
use Rattle.band_areas.specs.Growing.{AreGrowing, IsStack}
use Rattle.band_areas.proofs.StripLemmas.{growing_stand, strip_ascends, strip_more}
use Rattle.band_areas.proofs.strips.Strips.put.Goals as goal

pub stacked-requires-clause-growing : goal.stacked-requires-clause-growing
stacked-requires-clause-growing c =
    let b = c.requires.begun in
    subst AreGrowing (sym c.as_slice.ensures.value) (growing_stand b.0 b.1 c.args.self.now b.2 b.3)

pub stacked-requires-clause-ascend : goal.stacked-requires-clause-ascend
stacked-requires-clause-ascend c = let s = c.requires.strip in strip_ascends s.0 s.1 c.args.rows c.args.strip.items s.2

pub returns-clause-given : goal.returns-clause-given
returns-clause-given c = λ p k given has is.
    let fits : FitsSigned w64 c.y1.result = search rules in
    strip_more p k c.args.self.now given has c.requires.waiting c.args.rows c.args.strip.items is c.requires.from c.requires.some c.requires.to _
    c.in_ok-stack.stack c.growing_top-top.result.y refl (simp to_z-of_z c.y1.ensures.value)
    refl refl (subst (λ (zs : List Trapezoid). IsStack zs c.args.strip.items c.in_ok-stack.stack) c.as_slice.ensures.value c.in_ok-stack.ensures.stack)
    c.in_ok-stack.ensures.below c.in_ok-stack.ensures.reach c.growing_top-top.ensures
