use Rattle.std.proofs.Common.{arith, ◌≡◌, ◌<ℤ◌, w64, FitsSigned, refl, rules}
use Rattle.std.proofs.lemmas.Int.{ints, to_z-of_z}
use Rattle.half_grid.specs.Edges.{IsEdge, edge_parts}
use Rattle.half_grid.specs.Ways.{line_by}
use Rattle.half_grid.proofs.WayLemmas.{line_is}
use Rattle.half_grid.proofs.border.Edge.new.Goals as goal

edge : (c : goal.After-way_of) → IsEdge (edge_parts c.args.y0 c.args.y1 c.args.line c.args.up c.args.operand)
edge c =
    let first : FitsSigned w64 c.args.y0 = c.ranges.y0 in
    let last : FitsSigned w64 c.args.y1 = c.ranges.y1 in
    let low = simp to_z-of_z at (c.if-not-is_within_reach.ensures.0 refl) in
    let high = simp to_z-of_z at (c.if-not-is_within_reach-2.ensures.0 refl) in
    let lower_end = simp to_z-of_z at (c.if-not-has_end.ensures.0 refl) in
    let upper_end = simp to_z-of_z at (c.if-not-has_end-2.ensures.0 refl) in
    let rows : c.args.y0 <ℤ c.args.y1 = omega (arith, ints) in
    record { has_rows = rows; y0 = low; y1 = high; lower_end = lower_end; upper_end = upper_end }

line : (c : goal.After-way_of) → line_by c.way_of.result c.first_strip.result ≡ c.args.line
line c = line_is c.args.line c.way_of.result c.first_strip.result c.way_of.ensures c.first_strip.ensures

pub invariant_of-result : goal.invariant_of-result
invariant_of-result c =
    let first : FitsSigned w64 c.args.y0 = c.ranges.y0 in
    let last : FitsSigned w64 c.args.y1 = c.ranges.y1 in
    let number : FitsSigned w64 c.first_strip.result = search rules in
    simp (to_z-of_z, line c) (edge c)

pub returns : goal.returns
returns c =
    let first : FitsSigned w64 c.args.y0 = c.ranges.y0 in
    let last : FitsSigned w64 c.args.y1 = c.ranges.y1 in
    let number : FitsSigned w64 c.first_strip.result = search rules in
    (edge c, simp (to_z-of_z, line c))
