use Rattle.std.proofs.Common.{rules, ◌∙◌, ap, SFits, w16, to_z-of_z}
use Rattle.byteorder.specs.Endian.{twos_complement}
use Rattle.gds_record.proofs.NumberLemmas.{cast_signed-two}
use Rattle.gds_record.proofs.numbers.int2.Goals as goal

pub returns : goal.returns
returns c =
    let fits : SFits w16 c.cast_signed.result = search rules in
    to_z-of_z fits ∙ c.cast_signed.ensures ∙ cast_signed-two c.unsigned2.result c.unsigned2.type_inv
    ∙ ap (twos_complement 2) c.unsigned2.ensures
