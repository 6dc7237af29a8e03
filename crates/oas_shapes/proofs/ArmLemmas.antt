-- The offsets of one kind of repetition as those of all.
use Rattle.std.proofs.Common.{◌≡◌, Bool, Result, Ok, Err, IfOk, IsTrue, List, [], ◌∷◌, map, ap, subst, sym, ◌∙◌}
use Rattle.half_grid.specs.declared.plane.Point.{Point}
use Rattle.layout_model.specs.Layouts.{AreOffsets}
use Rattle.std.proofs.lemmas.List.Elements.{All-nil}
use Rattle.oas_record.specs.declared.repetition.Rep.{Rep}
use Rattle.oas_record.specs.declared.repetition.Rep.TheVariants as reps
use Rattle.oas_shapes.specs.Plane.{origin, doubled}
use Rattle.oas_shapes.specs.Repetitions.{steps_of, offsets_of, IsDimension, HasDimensions}
use Rattle.oas_shapes.specs.Rules.{AreNear}
use Rattle.oas_shapes.specs.declared.trails.Unplaced.{Unplaced}
use Rattle.oas_shapes.specs.declared.trails.Unplaced.TheVariants.{Far, Unkept}

pub arm_ok : (rep : Rep) (allowed : Bool) (steps : List Point) (r : Result (List Point) Unplaced) → (IsTrue allowed → HasDimensions rep)
    → steps ≡ steps_of rep → IfOk r (λ o. (o ≡ map doubled steps) × AreOffsets o × IsTrue allowed)
    → IfOk r (λ o. (o ≡ offsets_of rep) × AreOffsets o × HasDimensions rep)
arm_ok rep allowed steps (Ok o) few e h = (h.0 ∙ ap (map doubled) e, h.1, few h.2)
arm_ok rep allowed steps (Err bad) few e h = tt

pub arm_far : (rep : Rep) (steps : List Point) (r : Result (List Point) Unplaced) → steps ≡ steps_of rep
    → (r ≡ Err Far → ¬ AreNear (map doubled steps)) → r ≡ Err Far → ¬ AreNear (offsets_of rep)
arm_far rep steps r e h far near = h far (subst AreNear (sym (ap (map doubled) e)) near)

pub arm_unkept : (rep : Rep) (allowed : Bool) (steps : List Point) (r : Result (List Point) Unplaced) → steps ≡ steps_of rep
    → (r ≡ Err Unkept → AreNear (map doubled steps) × IsTrue allowed) → r ≡ Err Unkept → AreNear (offsets_of rep) × IsTrue allowed
arm_unkept rep allowed steps r e h unkept = (subst AreNear (ap (map doubled) e) (h unkept).0, (h unkept).1)

pub arm_same : (rep : Rep) (r : Result (List Point) Unplaced) → rep ≡ reps.Same → IfOk r (λ o. (o ≡ origin ∷ []) × AreOffsets o)
    → IfOk r (λ o. (o ≡ offsets_of rep) × AreOffsets o × HasDimensions rep)
arm_same rep (Ok o) e h = (h.0 ∙ ap offsets_of (sym e), h.1, subst HasDimensions (sym e) (All-nil IsDimension))
arm_same rep (Err bad) e h = tt
