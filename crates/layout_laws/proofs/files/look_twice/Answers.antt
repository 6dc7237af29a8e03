use Rattle.layout_laws.specs.FileLaws.{HasRecordOrNone}
use Rattle.layout_laws.proofs.files.look_twice.Goals as goal
use Rattle.layout_laws.proofs.PlaceLemmas.{either}

pub returns : goal.returns
returns c = either (HasRecordOrNone c.args.bytes.now c.args.at) c.look.ensures c.look-2.ensures
