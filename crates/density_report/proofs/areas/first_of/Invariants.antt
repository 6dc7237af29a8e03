use Rattle.std.proofs.Common.{◌≡◌, ◌*ℤ◌, ◌≤ℤ◌, take}
use Rattle.std.specs.List.{All}
use Rattle.half_grid.specs.Trapezoids.{Trapezoid}
use Rattle.density_report.proofs.areas.first_of.Given as goal

abbrev pub invariant-loop-trap : goal.invariant-loop-trap
invariant-loop-trap l = record {
  size : l.first.size ≡ l.batch.mesh.size;
  from : l.batch.row ≤ℤ l.first.row;
  up_to : l.first.row ≤ℤ l.batch.end;
  below : All (λ (z : Trapezoid). (l.first.row *ℤ l.first.size) ≤ℤ z.y0) (take l.trap-index l.traps);
}
