-- What crates above may cite: the spellings of integers and of shots, over plain variables.
pub use Rattle.oas_lex.proofs.Groups.{groups_last, groups_next, unsigned_spells, unsigned_least, length_unsigned}
pub use Rattle.oas_lex.proofs.Codes.{signed_spells, code_below, code_names}
pub use Rattle.oas_lex.proofs.Wholes.{none_begins, whole_some}
pub use Rattle.oas_lex.proofs.Reading.{has_one, has_not_wide, ends_not_has, ends_not_wide, rest_is}
pub use Rattle.oas_lex.proofs.SpellingLemmas.{signed_least, unsigned_back, signed_back, one_signed}
-- The numbers of a shot's record: how near to 0 they are, and that they name the shot.
pub use Rattle.oas_lex.proofs.ShotBounds.{width_near, rows_near, left_near, right_near, x_near, bottom_near}
pub use Rattle.oas_lex.proofs.ShotBounds.{left_narrow, right_narrow, x_narrow, width_narrow, rows_narrow, bottom_narrow}
pub use Rattle.oas_lex.proofs.ShotBounds.{shot_narrow}
pub use Rattle.oas_lex.proofs.ShotNames.{least_names, greatest_names, width_some, shot_names}
-- Texts that begin with a number, a record or a head: what they have in common.
pub use Rattle.oas_lex.proofs.Peels.{unsigned_peel, signed_peel, delta_peel, id_tests, not_end, before_unit, after_unit, head_is, head_peel}
pub use Rattle.oas_lex.proofs.FieldTexts.{opened, text_opens, text_some, spelling_is, spelling_some, same_fields, one_record}
pub use Rattle.oas_lex.proofs.ShotTexts.{record_names, text_names}
-- What stands at a place is one value with one end, or it fails for one cause.
pub use Rattle.oas_lex.proofs.Readers.{IsReader, found_ok, fault_ok, found_err, fault_err, found_by, fault_by, pair_is}
pub use Rattle.oas_lex.proofs.Readers.{after, made, number_reader, signed_reader, bytes_reader, text_reader}
pub use Rattle.oas_lex.proofs.Readers.{number_fails, delta2_reader, delta3_reader, delta_g_reader, real_reader}
