use Rattle.std.proofs.Common.{◌<ℤ◌, ◌≤ℤ◌, int_lt, rules}
use Rattle.std.proofs.lemmas.List.Sorted.{IsPartitionPoint-from_clause}
use Rattle.half_grid.specs.Trapezoids.{Trapezoid}
use Rattle.band_areas.proofs.GrowingLemmas.{tops_parted, first_all, later_all, lt_is, lt_not}
use Rattle.band_areas.proofs.stacks.count_below.Goals as goal

pub returns-clause-below : goal.returns-clause-below
returns-clause-below c =
    let point = IsPartitionPoint-from_clause (λ (z : Trapezoid). int_lt z.y1 c.args.top.y) _ _ c.partition_point.ensures.partitioned
    (tops_parted c.args.traps.now c.args.top.y c.requires) (λ a r q k. search rules) in
    first_all (λ z. z.y1 <ℤ c.args.top.y) c.args.traps.now c.partition_point.result (λ k d low high. lt_is _ c.args.top.y (point.0 k d low high))

pub returns-clause-others : goal.returns-clause-others
returns-clause-others c =
    let point = IsPartitionPoint-from_clause (λ (z : Trapezoid). int_lt z.y1 c.args.top.y) _ _ c.partition_point.ensures.partitioned
    (tops_parted c.args.traps.now c.args.top.y c.requires) (λ a r q k. search rules) in
    later_all (λ z. c.args.top.y ≤ℤ z.y1) c.args.traps.now c.partition_point.result (λ k d low high. lt_not _ c.args.top.y (point.1 k d low high))
