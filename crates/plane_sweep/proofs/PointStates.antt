-- What is settled at a point, whatever entered it: what ends in the point and what begins in it; then the run that leaves it.
use Rattle.std.proofs.Common.{ℤ, List, [], ◌∷◌, ◌++◌, map, All, append_assoc, subst}
use Rattle.half_grid.specs.Trapezoids.{Trapezoid}
use Rattle.scan_line.specs.declared.runs.Run.{Run}
use Rattle.trap_join.specs.declared.front.Growing.{Growing}
use Rattle.trap_join.specs.Fronts.{grown_into, ended_at}
use Rattle.plane_sweep.specs.Settled.{IsSettled}
use Rattle.plane_sweep.specs.Points.{GrowLeft, RunLeft, EndsIn, BeginsIn, Leaves}
use Rattle.plane_sweep.proofs.PointSteps.{all_end_in, all_begin_in, leaving_ends}

module _ (y x : ℤ) (front inner : List Growing) (runs begun : List Run) (fresh : List Growing) (given : List Trapezoid)
    (grow : GrowLeft y x front) (run : RunLeft y x runs) (ends : All (EndsIn y x) inner)
    (begins : All (BeginsIn y x) begun) (settled : IsSettled y front runs fresh given) where
  -- what ends in the point and what begins in it
  pub in_point : IsSettled y (front ++ inner) (runs ++ begun) (fresh ++ map (grown_into [] y) begun) (given ++ map (ended_at y) inner)
  in_point = all_begin_in y x begun front inner runs fresh (given ++ map (ended_at y) inner) grow ends begins
      (all_end_in y x inner front runs fresh given run ends settled)

  -- and what leaves it below, where it doesn't go on
  pub leaves_point : (g : Growing) → Leaves y x g
      → IsSettled y (front ++ (inner ++ g ∷ [])) (runs ++ begun) (fresh ++ map (grown_into [] y) begun) ((given ++ map (ended_at y) inner) ++ ended_at y g ∷ [])
  leaves_point g h =
      subst (λ (us : List Growing). IsSettled y us (runs ++ begun) (fresh ++ map (grown_into [] y) begun)
      ((given ++ map (ended_at y) inner) ++ ended_at y g ∷ []))
      (append_assoc front inner (g ∷ []))
      (leaving_ends y x (front ++ inner) runs begun (fresh ++ map (grown_into [] y) begun) (given ++ map (ended_at y) inner) g run begins h in_point)
