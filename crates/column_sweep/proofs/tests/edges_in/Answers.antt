use Rattle.std.proofs.lemmas.Result.{IfOk-weaker}
use Rattle.scan_line.specs.Runs.{IsBalanced}
use Rattle.column_sweep.proofs.tests.edges_in.Goals as goal

pub returns : goal.returns
returns c =
    IfOk-weaker c.operand_edges.result _ (λ edges. IsBalanced edges.items c.args.rows) (λ edges balanced. balanced c.args.rows) c.operand_edges.ensures.balanced
