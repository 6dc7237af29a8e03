use Rattle.std.proofs.Common.{◌≡◌, map, subst, IfOk, IsTrue, Err}
use Rattle.layout_model.specs.Images.{enlarged}
use Rattle.layout_model.specs.Layouts.{AreOffsets}
use Rattle.oas_shapes.specs.Plane.{origin, doubled, places_along}
use Rattle.oas_shapes.specs.Rules.{AreNear}
use Rattle.oas_shapes.specs.Ways.{towards}
use Rattle.oas_shapes.specs.declared.trails.Unplaced.TheVariants.{Far, Unkept}
use Rattle.oas_shapes.proofs.NearLemmas.{map_same}
use Rattle.oas_shapes.proofs.TrailLemmas.{once}
use Rattle.oas_shapes.proofs.repetitions.by_own_spaces.Goals as goal

pub returns-clause-ok : goal.returns-clause-ok
returns-clause-ok c =
    let up = c.args.is_upright in
    let same = map_same (λ space. enlarged 1 (towards up space)) (towards up) (λ space. once (towards up space)) c.args.spaces.now in
    subst (λ ms. IfOk c.by_spaces.result (λ o. (o ≡ map doubled (places_along origin ms)) × AreOffsets o × IsTrue c.args.is_allowed)) same
    c.by_spaces.ensures.ok

pub returns-clause-far : goal.returns-clause-far
returns-clause-far c =
    let up = c.args.is_upright in
    let same = map_same (λ space. enlarged 1 (towards up space)) (towards up) (λ space. once (towards up space)) c.args.spaces.now in
    subst (λ ms. c.by_spaces.result ≡ Err Far → ¬ AreNear (map doubled (places_along origin ms))) same c.by_spaces.ensures.far

pub returns-clause-unkept : goal.returns-clause-unkept
returns-clause-unkept c =
    let up = c.args.is_upright in
    let same = map_same (λ space. enlarged 1 (towards up space)) (towards up) (λ space. once (towards up space)) c.args.spaces.now in
    subst (λ ms. c.by_spaces.result ≡ Err Unkept → AreNear (map doubled (places_along origin ms)) × IsTrue c.args.is_allowed) same
    c.by_spaces.ensures.unkept
