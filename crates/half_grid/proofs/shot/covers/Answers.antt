use Rattle.std.proofs.Common.{◌≡◌, true, false, refl, arith, FitsSigned, w64, rules}
use Rattle.std.proofs.lemmas.Int.{ints, to_z-of_z}
use Rattle.half_grid.specs.Reach.{IsWithinReach}
use Rattle.half_grid.proofs.ReachLemmas.{tile_of_shot_within}
use Rattle.half_grid.proofs.shot.covers.Goals as goal

pub returns-then-not-is_within_reach : goal.returns-then-not-is_within_reach
returns-then-not-is_within_reach c = (
  λ h. let no : false ≡ true = h in let contradiction : ⊥ = cc in absurd contradiction,
  λ h. let fits : FitsSigned w64 c.args.tile.i = search rules in
      c.if-not-is_within_reach.ensures.1 (simp to_z-of_z (tile_of_shot_within c.args.trap.now c.args.tile c.y0.ensures.shot h).column),
)

pub is_right_of-requires : goal.is_right_of-requires
is_right_of-requires c =
    let fits : FitsSigned w64 c.args.tile.i = search rules in
    let column : IsWithinReach c.args.tile.i = simp to_z-of_z at (c.if-not-is_within_reach.ensures.0 refl) in
    record {
      column = column;
      row =
          record {
            low = omega (arith, ints, c.y0.ensures.shot.reach.y0.low);
            high = omega
                (arith, ints, c.y0.ensures.shot.reach.y1.high);
          };
    }

pub is_right_of-requires-2 : goal.is_right_of-requires-2
is_right_of-requires-2 c =
    let fits : FitsSigned w64 c.args.tile.i = search rules in
    let column : IsWithinReach c.args.tile.i = simp to_z-of_z at (c.if-not-is_within_reach.ensures.0 refl) in
    record {
      column = column;
      row =
          record {
            low = omega (arith, ints, c.y0.ensures.shot.reach.y0.low);
            high = omega
                (arith, ints, c.y0.ensures.shot.reach.y1.high);
          };
    }
