-- What crates above may cite: bytes have one first fault at most, a shot file has none, and is one list of shots.
pub use Rattle.shot_reader.proofs.Faults.{one_fault}
pub use Rattle.shot_reader.proofs.Files.{file_right, one_file}
-- What stands at a place: numbers, deltas by the id, and what follows them.
pub use Rattle.shot_reader.proofs.Places.{after_text, unsigned_there, read_next}
pub use Rattle.shot_reader.proofs.Ids.{byte_is, left_there, right_there, first_byte}
pub use Rattle.shot_reader.proofs.Records.{not_begun}
pub use Rattle.shot_reader.proofs.Nears.{own_near, near_fields}
pub use Rattle.shot_reader.proofs.Rests.{unit_small, not_nil, all_more}
pub use Rattle.shot_reader.proofs.Shorts.{opens_by}
