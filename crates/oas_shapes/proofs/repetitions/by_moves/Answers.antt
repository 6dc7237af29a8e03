use Rattle.std.proofs.Common.{◌≡◌, ◌∙◌, ◌↔◌, false, IsTrue, map, sym, subst, rules}
use Rattle.layout_model.specs.Layouts.{AreOffsets}
use Rattle.oas_shapes.specs.Plane.{origin, doubled, places_along}
use Rattle.oas_shapes.specs.Rules.{AreNear}
use Rattle.oas_shapes.specs.declared.trails.Unplaced.TheVariants.{Far, Many}
use Rattle.oas_shapes.proofs.NearLemmas.{are_offsets}
use Rattle.oas_shapes.proofs.TrailLemmas.{some_places, all_once}
use Rattle.oas_shapes.proofs.repetitions.by_moves.Goals as goal

pub listed-requires : goal.listed-requires
listed-requires c =
    subst AreOffsets (sym (c.as_slice.ensures ∙ c.in-Ok.ensures.places))
    (are_offsets (places_along origin c.args.moves.now) (some_places origin c.args.moves.now) (subst AreNear c.in-Ok.ensures.places c.in-Ok.ensures.near))

pub returns-then-not-is_allowed-clause-far : goal.returns-then-not-is_allowed-clause-far
returns-then-not-is_allowed-clause-far c = λ e near.
    let stay = c.moves_stay_near.result in
    let said = subst (λ ms. IsTrue stay ↔ AreNear (map doubled (places_along origin ms))) (all_once c.args.moves.now) c.moves_stay_near.ensures in
    let is : c.refused.result ≡ Far = cc in
    let no = c.refused.ensures.far is in
    let yes = said.1 near in
    cc

pub returns-then-not-is_allowed-clause-many : goal.returns-then-not-is_allowed-clause-many
returns-then-not-is_allowed-clause-many c = λ e.
    let stay = c.moves_stay_near.result in
    let said = subst (λ ms. IsTrue stay ↔ AreNear (map doubled (places_along origin ms))) (all_once c.args.moves.now) c.moves_stay_near.ensures in
    let is : c.refused.result ≡ Many = cc in
    let none : c.args.is_allowed ≡ false = search rules in
    (said.0 (c.refused.ensures.many is), none)
