use Rattle.std.proofs.Common.{w64, FitsSigned}
use Rattle.std.proofs.lemmas.Int.{to_z-of_z}
use Rattle.trap_join.proofs.front.Front.end_growing.Goals as goal

pub end_all-requires : goal.end_all-requires
end_all-requires c =
    let y : FitsSigned w64 c.args.y = c.ranges.y in
    simp (to_z-of_z, c.as_slice.ensures.value) c.requires
