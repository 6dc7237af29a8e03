use Rattle.plane_sweep.proofs.PackedLemmas.{begin_placed}
use Rattle.plane_sweep.proofs.packed.Packed.begin_of.Goals as goal

pub pack-requires : goal.pack-requires
pack-requires c = begin_placed c.args.edge.now c.begin_of.result c.begin_of.ensures c.y0-promised.ensures.edge
