use Rattle.std.proofs.Common.{ℤ, Bool, FitsSigned, w64, rules, refl}
use mir.Syntax.{w128}
use Rattle.std.proofs.lemmas.Int.{to_z-of_z}
use Rattle.scan_line.specs.ClippedEdges.{parts_in}
use Rattle.plane_sweep.specs.Lowest.{IsSpotOf}
use Rattle.plane_sweep.proofs.LowestLemmas.{lowest_is}
use Rattle.plane_sweep.proofs.SweptParts.{begun}
use Rattle.plane_sweep.proofs.lowest_tile.lowest.Goals as goal

pub lowest_spot-requires-clause-come : goal.lowest_spot-requires-clause-come
lowest_spot-requires-clause-come g c = (
  c.args.edges.items,
  begun _ _ c.requires.rule (λ events. events) c.args.edges.items (parts_in c.args.window c.args.edges.items) c.args.window c.in_ok-progress.progress refl
      c.requires.balanced c.in_ok-progress.ensures.window (rw c.as_slice.ensures.value at c.in_ok-progress.ensures.below),
)

pub returns-in_default-clause-none : goal.returns-in_default-clause-none
returns-in_default-clause-none g c =
    let come = begun _ _ c.requires.rule (λ events. events) c.args.edges.items
    (parts_in c.args.window c.args.edges.items) c.args.window c.in_ok-progress.progress refl
    c.requires.balanced c.in_ok-progress.ensures.window (rw c.as_slice.ensures.value at c.in_ok-progress.ensures.below) in
    rw (c.in_default.is, c.in_ok-progress.ensures.window) at (c.in_ok-spot.ensures c.args.edges.items come)

pub returns-clause-found : goal.returns-clause-found
returns-clause-found g c =
    let post : g.row.F.Denot → ℤ → ℤ → Bool → Type 0 = λ rule a b r. g.F.Fn.post rule (a, (b, tt)) r in
    let row : FitsSigned w64 c.in-Some.spot.row = search rules in
    let number : FitsSigned w64 c.in-Some.spot.number = search rules in
    let is : IsSpotOf c.in-Some.spot c.tile_at.result = record {
      row = simp to_z-of_z at c.tile_at.ensures.row;
      number = simp to_z-of_z at c.tile_at.ensures.number;
    } in
    let come = begun _ (post c.args.rule) c.requires.rule (λ events. events) c.args.edges.items (parts_in c.args.window c.args.edges.items) c.args.window
    c.in_ok-progress.progress refl c.requires.balanced c.in_ok-progress.ensures.window (rw c.as_slice.ensures.value at c.in_ok-progress.ensures.below) in
    let first = rw (c.in-Some.is, c.in_ok-progress.ensures.window) at (c.in_ok-spot.ensures c.args.edges.items come) in
    let a : FitsSigned w128 c.winding_at.result = search rules in
    let b : FitsSigned w128 c.winding_at-2.result = search rules in
    rw (to_z-of_z w128 c.winding_at.result a, to_z-of_z w128 c.winding_at-2.result b)
    (lowest_is (post c.args.rule) c.args.edges.items c.args.window c.in-Some.spot c.tile_at.result c.winding_at.result c.winding_at-2.result
    first is (rw c.as_slice-2.ensures.value at (c.winding_at.ensures c.tile_at.result is))
    (rw c.as_slice-3.ensures.value at (c.winding_at-2.ensures c.tile_at.result is)))
