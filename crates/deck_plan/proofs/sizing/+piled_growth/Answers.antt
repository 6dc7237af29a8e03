use Rattle.std.proofs.Common.{◌^◌, w64, FitsSigned, sym, subst, rules}
use Rattle.std.proofs.lemmas.Int.{to_z-of_z}
use Rattle.std.proofs.lemmas.Result.{IfOk-weaker}
use Rattle.half_grid.specs.Nearness.{IsGrown}
use Rattle.half_grid.specs.Trapezoids.{IsLegal}
use Rattle.square_size.specs.EdgeLaws.{IsInSome}
use Rattle.deck_plan.specs.Bounds.{HasCornersUpTo}
use Rattle.deck_plan.specs.Lists.{HasArea}
use Rattle.deck_plan.proofs.GrowthLemmas.{both_grown, first_all, last_all}
use Rattle.deck_plan.proofs.sizing.+piled_growth.Goals as goal

pub piled_growth-requires : goal.piled_growth-requires
piled_growth-requires n c =
    let dx : FitsSigned w64 c.args.dx = c.ranges.dx in
    let dy : FitsSigned w64 c.args.dy = c.ranges.dy in (
      search rules,
      (
        simp to_z-of_z c.requires.sizing,
        (
          first_all IsLegal c.split_at.result.0.now c.split_at.result.1.now c.args.traps.now c.split_at.ensures.by_index.0 c.requires.legal,
          first_all (HasCornersUpTo (2 ^ 43)) c.split_at.result.0.now c.split_at.result.1.now c.args.traps.now
              c.split_at.ensures.by_index.0 c.requires.near,
        ),
      ),
    )

pub piled_growth-requires-2 : goal.piled_growth-requires-2
piled_growth-requires-2 n c =
    let dx : FitsSigned w64 c.args.dx = c.ranges.dx in
    let dy : FitsSigned w64 c.args.dy = c.ranges.dy in (
      search rules,
      (
        simp to_z-of_z c.requires.sizing,
        (
          last_all IsLegal c.split_at.result.0.now c.split_at.result.1.now c.args.traps.now c.split_at.ensures.by_index.0 c.requires.legal,
          last_all (HasCornersUpTo (2 ^ 43)) c.split_at.result.0.now c.split_at.result.1.now c.args.traps.now
              c.split_at.ensures.by_index.0 c.requires.near,
        ),
      ),
    )

pub returns : goal.returns
returns n c =
    let dx : FitsSigned w64 c.args.dx = c.ranges.dx in
    let dy : FitsSigned w64 c.args.dy = c.ranges.dy in
    let low = simp to_z-of_z at c.in_ok-low.ensures in
    let high = simp to_z-of_z at c.in_ok-high.ensures in
    IfOk-weaker c.combine.result _ (λ grown. HasArea c.args.window (IsGrown c.args.dx c.args.dy (IsInSome c.args.traps.now)) grown.items)
    (λ grown joined. subst (λ traps. HasArea c.args.window (IsGrown c.args.dx c.args.dy (IsInSome traps)) grown.items)
    (sym c.split_at.ensures.by_index.0)
    (both_grown c.args.dx c.args.dy c.split_at.result.0.now c.split_at.result.1.now c.args.window c.in_ok-low.low.items c.in_ok-high.high.items
    grown.items low high (rw (c.as_slice.ensures.value, c.as_slice-2.ensures.value) at joined)))
    c.combine.ensures
