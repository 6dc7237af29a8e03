use Rattle.std.proofs.Common.{ap, arith, length}
use Rattle.mdp_job.specs.ShotFiles.{IsPackedFault}
use Rattle.mdp_job.proofs.Taken.{packed_refused, wanting}
use Rattle.mdp_job.proofs.files.read_packed_file.Goals as goal

pub returns-in-Err-Fault-clause-refused : goal.returns-in-Err-Fault-clause-refused
returns-in-Err-Fault-clause-refused g c = λ told.
    let at = g.D.Depot.content in
    let counts = g.D.Depot.counts in
    packed_refused (at c.args.depot.now) (at c.read_all.new.depot) (counts c.args.depot.now)
    (counts c.read_all.new.depot) c.args.file.now c.in-Ok.bytes.items (c.in-Ok.ensures.ok told)
    (omega (arith, ap length c.deref.ensures.value, c.deref.ensures.len, c.in-Ok.ensures.within)) (c.in-Ok.ensures.whole told)
    c.in-Err-Fault.bad (rw (c.deref.ensures.value, c.in-Err-Fault.field-0-is) at c.in-Err-Fault.ensures.first_fault)

pub returns-clause-refused : goal.returns-clause-refused
returns-clause-refused g c = λ told.
    let at = g.D.Depot.content in
    let counts = g.D.Depot.counts in
    wanting (at c.args.depot.now) (at c.read_all.new.depot) (counts c.args.depot.now)
    (counts c.read_all.new.depot) c.args.file.now c.in-Ok.bytes.items (c.in-Ok.ensures.ok told)
    (omega (arith, ap length c.deref.ensures.value, c.deref.ensures.len, c.in-Ok.ensures.within)) (c.in-Ok.ensures.whole told) IsPackedFault
