use Rattle.std.proofs.Common.{◌≡◌, sym, subst}
use Rattle.std.proofs.lemmas.Result.{IfOk-weaker}
use Rattle.half_grid.specs.declared.border.Operand.TheVariants.{A}
use Rattle.scan_line.specs.OutlineEdges.{edges_along}
use Rattle.scan_line.specs.Runs.{IsBalancedAt}
use Rattle.scan_line.proofs.ForCallers.{outline_is_balanced}
use Rattle.bool_ops.specs.Operations.{ArePieces}
use Rattle.bool_ops.proofs.RowsLemmas.{pieces_are}
use Rattle.bool_ops.proofs.outline.pieces_in.Goals as goal

pub unite-requires : goal.unite-requires
unite-requires c = λ o j low high.
    let edges : c.in_ok-edges.edges.items ≡ edges_along A c.args.points.now = c.in_ok-edges.ensures (edges_along A c.args.points.now) c.new.ensures in
    subst (λ es. IsBalancedAt es o j) (sym edges) (outline_is_balanced o A c.args.points.now j c.requires.closed c.requires.grid)

pub returns : goal.returns
returns c =
    let edges : c.in_ok-edges.edges.items ≡ edges_along A c.args.points.now = c.in_ok-edges.ensures (edges_along A c.args.points.now) c.new.ensures in
    IfOk-weaker c.unite.result _ (λ traps. ArePieces c.args.points.now traps.items)
    (λ traps. pieces_are c.args.points.now c.in_ok-edges.edges.items c.window_of.result edges c.requires.closed c.window_of.ensures traps.items)
    c.unite.ensures
