use Rattle.std.proofs.Common.{◌∙◌, subst}
use Rattle.std.specs.Prelude.{IfOk}
use Rattle.bool_ops.specs.Operations.{ArePieces}
use Rattle.bool_ops.proofs.outline.pieces.Goals as goal

pub returns-in-Some : goal.returns-in-Some
returns-in-Some c =
    subst (λ points. IfOk c.pieces_in.result (λ traps. ArePieces points traps.items)) (c.in-Some.ensures.own ∙ c.outline-outline.ensures)
    c.pieces_in.ensures

pub returns : goal.returns
returns c =
    subst (λ points. IfOk c.pieces_in-2.result (λ traps. ArePieces points traps.items))
    (c.as_slice-2.ensures.value ∙ c.in_ok-points.ensures ∙ c.outline-outline.ensures) c.pieces_in-2.ensures
