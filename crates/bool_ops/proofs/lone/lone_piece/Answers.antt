use Rattle.std.proofs.lemmas.Option.{IfSome_then}
use Rattle.bool_ops.proofs.LoneLemmas.{lone_covers}
use Rattle.bool_ops.proofs.lone.lone_piece.Goals as goal

pub returns : goal.returns
returns c =
    IfSome_then c.trap_in.result c.trap_in.ensures (λ z it.
    lone_covers c.args.points.now c.in-Some.sides c.in-Some-slab_of.slab z c.in-Some.ensures c.in-Some-slab_of.ensures it)
