use Rattle.std.proofs.Common.{rules, ◌∙◌, ap, SFits, w32, to_z-of_z}
use Rattle.byteorder.specs.Endian.{twos_complement}
use Rattle.gds_record.proofs.NumberLemmas.{cast_signed-four}
use Rattle.gds_record.proofs.numbers.int4.Goals as goal

pub returns : goal.returns
returns c =
    let fits : SFits w32 c.cast_signed.result = search rules in
    to_z-of_z fits ∙ c.cast_signed.ensures ∙ cast_signed-four c.unsigned4.result c.unsigned4.type_inv
    ∙ ap (twos_complement 4) c.unsigned4.ensures
