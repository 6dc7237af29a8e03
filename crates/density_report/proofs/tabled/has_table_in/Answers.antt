use Rattle.density_report.proofs.Existing.{has_table}
use Rattle.density_report.proofs.tabled.has_table_in.Goals as goal

pub returns : goal.returns
returns c =
    has_table c.args.plan.now c.args.output c.args.mesh.now.size c.args._rows c.requires.size c.requires.near c.requires.outside c.has_lists.ensures
