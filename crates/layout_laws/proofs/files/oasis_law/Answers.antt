use Rattle.layout_laws.proofs.files.oasis_law.Goals as goal
use Rattle.layout_laws.proofs.OasisLemmas.{others_have_fault}

pub returns : goal.returns
returns c = others_have_fault c.args.bytes.now c.look_everywhere.ensures
