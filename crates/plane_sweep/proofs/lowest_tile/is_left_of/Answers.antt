use Rattle.std.proofs.Common.{FitsSigned, w64, rules, ℤ, ◌≤ℤ◌, ◌<ℤ◌, ap, subst, ◌∙◌}
use Rattle.std.proofs.lemmas.Int.{to_z-of_z}
use Rattle.half_grid.specs.Rows.{place}
use Rattle.half_grid.specs.declared.plane.Line.{Line}
use Rattle.plane_sweep.proofs.LowestLemmas.{edge_reach, next_edge_reach, spot_left, spot_right}
use Rattle.plane_sweep.proofs.lowest_tile.is_left_of.Goals as goal

pub place_of-requires-clause-bottom : goal.place_of-requires-clause-bottom
place_of-requires-clause-bottom c =
    let fits : FitsSigned w64 c.args.spot.row = search rules in
    let from : c.args.edge.now.y0 ≤ℤ c.args.spot.row = search rules in
    let below : c.args.spot.row <ℤ c.args.edge.now.y1 = search rules in
    rw (to_z-of_z w64 c.args.spot.row fits, c.line.ensures.value) (edge_reach c.args.edge.now c.args.spot.row c.line.ensures.edge from below)

pub place_of-requires-clause-top : goal.place_of-requires-clause-top
place_of-requires-clause-top c =
    let fits : FitsSigned w64 c.args.spot.row = search rules in
    let from : c.args.edge.now.y0 ≤ℤ c.args.spot.row = search rules in
    let below : c.args.spot.row <ℤ c.args.edge.now.y1 = search rules in
    rw (to_z-of_z w64 c.args.spot.row fits, c.line.ensures.value) (next_edge_reach c.args.edge.now c.args.spot.row c.line.ensures.edge from below)

pub returns-then-spot-place_of : goal.returns-then-spot-place_of
returns-then-spot-place_of c = λ t is.
    let fits : FitsSigned w64 c.args.spot.row = search rules in
    let right : c.args.spot.number <ℤ c.place_of.result = search rules in
    let at = (simp to_z-of_z at c.place_of.ensures) ∙ ap (λ (l : Line). place l c.args.spot.row) c.line.ensures.value in
    spot_left c.args.edge.now c.args.spot t is (subst (λ (x : ℤ). c.args.spot.number <ℤ x) at right)

pub returns : goal.returns
returns c = λ t is.
    let fits : FitsSigned w64 c.args.spot.row = search rules in
    let from : c.args.edge.now.y0 ≤ℤ c.args.spot.row = search rules in
    let below : c.args.spot.row <ℤ c.args.edge.now.y1 = search rules in
    let left : c.place_of.result ≤ℤ c.args.spot.number = search rules in
    let at = (simp to_z-of_z at c.place_of.ensures) ∙ ap (λ (l : Line). place l c.args.spot.row) c.line.ensures.value in
    spot_right c.args.edge.now c.args.spot t is from below (subst (λ (x : ℤ). x ≤ℤ c.args.spot.number) at left)
