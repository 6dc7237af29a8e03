use Rattle.std.proofs.Common.{◌≡◌, List, take, subst, arith}
use Rattle.std.proofs.lemmas.List.{take_all}
use Rattle.half_grid.specs.Trapezoids.{Trapezoid}
use Rattle.density_report.specs.Rows.{AreMapsOf}
use Rattle.density_report.proofs.maps.put_maps.Goals as goal

pub returns-clause-maps : goal.returns-clause-maps
returns-clause-maps c =
    let l = c.loop-next in
    let all : take l.next c.args.traps.now ≡ c.args.traps.now = take_all l.next c.args.traps.now (omega (arith, c.loop-next-test.false)) in
    subst (λ (ts : List Trapezoid). AreMapsOf c.args.batch.now.mesh.size c.args.batch.now.end ts l.maps.items) all l.invariant.maps
