use Rattle.std.proofs.Common.{◌∙◌}
use Rattle.depot.proofs.FilingLemmas.{bytes_of-place}
use Rattle.depot.proofs.filing.bytes_of.Goals as goal

pub returns : goal.returns
returns c = c.as_slice.ensures.value ∙ bytes_of-place c.args.files.now c.args.at c.index-files-at.result c.requires
