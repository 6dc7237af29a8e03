use Rattle.std.proofs.lemmas.Result.{IfOk-weaker}
use Rattle.half_grid.specs.declared.border.Operand.TheVariants.{A, B}
use Rattle.half_grid.specs.Windows.{RowRange}
use Rattle.scan_line.specs.Runs.{IsBalanced}
use Rattle.column_sweep.specs.Operands.{WindsByCount}
use Rattle.column_sweep.proofs.OperandEdges.{winds_by_first, winds_by_second, operands_balanced}
use Rattle.column_sweep.proofs.operands.operand_edges.Goals as goal

pub returns-clause-a : goal.returns-clause-a
returns-clause-a c =
    IfOk-weaker c.edges_of_both.result _ (λ edges. WindsByCount A edges.items c.args.a.now c.args.window)
    (λ edges. winds_by_first c.args.a.now c.args.b.now c.args.window edges.items c.are_shots.ensures) c.edges_of_both.ensures

pub returns-clause-b : goal.returns-clause-b
returns-clause-b c =
    IfOk-weaker c.edges_of_both.result _ (λ edges. WindsByCount B edges.items c.args.b.now c.args.window)
    (λ edges. winds_by_second c.args.a.now c.args.b.now c.args.window edges.items c.are_shots-2.ensures) c.edges_of_both.ensures

pub returns-clause-balanced : goal.returns-clause-balanced
returns-clause-balanced c =
    IfOk-weaker c.edges_of_both.result _ (λ edges. (rows : RowRange) → IsBalanced edges.items rows)
    (λ edges is rows. operands_balanced c.args.a.now c.args.b.now c.args.window rows edges.items is) c.edges_of_both.ensures
