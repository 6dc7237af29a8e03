use Rattle.std.proofs.Common.{ap, ◌∙◌}
use Rattle.std.proofs.lemmas.List.{take_rest}
use Rattle.byteorder.specs.Endian.{big_number}
use Rattle.gds_record.specs.Numbers.{number_at}
use Rattle.gds_record.proofs.numbers.unsigned4.Goals as goal

pub returns : goal.returns
unfolding number_at
returns c = c.read_u32.ensures ∙ ap (big_number 4) (take_rest c.args.bytes.now c.args.at)
