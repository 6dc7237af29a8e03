use Rattle.std.proofs.Common.{sym, subst}
use Rattle.flat_walk.specs.Boxes.{AreNear}
use Rattle.flat_walk.proofs.blocks.BoxList.of.Goals as goal

pub blocks_of-requires : goal.blocks_of-requires
blocks_of-requires c = subst AreNear (sym c.as_slice.ensures.value) c.requires
