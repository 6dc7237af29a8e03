use Rattle.std.proofs.Common.{w64, FitsSigned}
use Rattle.std.proofs.lemmas.Int.{to_z-of_z}
use Rattle.square_size.proofs.Taking.{sides_put}
use Rattle.square_size.proofs.pieces.put_grown.Goals as goal

pub returns : goal.returns
returns c =
    let dx : FitsSigned w64 c.args.dx = c.ranges.dx in
    let dy : FitsSigned w64 c.args.dy = c.ranges.dy in
    let left = rw c.reserve.ensures.items at (simp to_z-of_z at c.add_left.ensures.items) in
    let right = simp to_z-of_z at c.add_right.ensures.items in
    sides_put c.args.dx c.args.dy c.args.trap.now c.args.edges.now.items c.add_left.new.edges.items c.add_right.new.edges.items left right
