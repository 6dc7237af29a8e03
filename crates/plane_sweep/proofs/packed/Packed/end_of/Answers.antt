use Rattle.plane_sweep.proofs.PackedLemmas.{end_placed}
use Rattle.plane_sweep.proofs.packed.Packed.end_of.Goals as goal

pub pack-requires : goal.pack-requires
pack-requires c = end_placed c.args.edge.now c.end_of.result c.end_of.ensures c.y0-promised.ensures.edge
