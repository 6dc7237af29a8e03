use Rattle.sweep_tests.proofs.scans.compare.Goals as goal

pub next-requires : goal.next-requires
next-requires g c = rw c.slabs.invariant c.requires
