use Rattle.std.proofs.Common.{FitsSigned, w64, rules}
use Rattle.std.proofs.lemmas.Int.{to_z-of_z}
use Rattle.column_sweep.proofs.Halving.{turned_is_edge}
use Rattle.column_sweep.proofs.parting.turned.Goals as goal

pub of-requires : goal.of-requires
of-requires c =
    let bottom : FitsSigned w64 c.y0.result = search rules in
    let top : FitsSigned w64 c.y1.result = search rules in
    simp to_z-of_z
    (rw (c.y0.ensures.value, c.y1.ensures.value, c.line.ensures.value, c.is_up.ensures.value, c.operand.ensures.value)
    (turned_is_edge c.args.edge.now c.y0.ensures.edge))
