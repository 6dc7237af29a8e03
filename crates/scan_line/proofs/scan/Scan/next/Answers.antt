use Rattle.std.proofs.Common.{arith}
use Rattle.scan_line.proofs.Transport.{runs_of_slab, even_in_slab, active_few}
use Rattle.scan_line.proofs.scan.Scan.next.Goals as goal

pub fill-requires-clause-balanced : goal.fill-requires-clause-balanced
fill-requires-clause-balanced g c =
    let step = c.in-Some.ensures in
    rw c.active.ensures (even_in_slab _ _ _ _ step.slab step.within step.active c.self.invariant.balanced)

pub fill-requires-clause-room : goal.fill-requires-clause-room
fill-requires-clause-room g c =
    let few = active_few _ _ _ c.in-Some.ensures.active in
    let fits = c.self.invariant.fits in
    rw c.active.ensures (omega (arith, few, fits))

pub returns-in-Some-clause-runs : goal.returns-in-Some-clause-runs
returns-in-Some-clause-runs g c =
    let step = c.in-Some.ensures in
    let rows = rw c.active.ensures at c.fill.ensures.rows in
    let lines = rw c.active.ensures at c.fill.ensures.lines in
    rw (← c.self.view_is) (runs_of_slab _ _ _ _ _ step.slab.has_rows step.known step.active rows lines)
