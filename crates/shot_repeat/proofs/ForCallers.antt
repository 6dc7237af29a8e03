-- What crates above may cite: bytes stand for one list of shots at most, have one first fault at most, a packed shot file
-- has none, and the packed text of shots stands for them.
pub use Rattle.shot_repeat.proofs.Files.{one_file, file_right}
pub use Rattle.shot_repeat.proofs.Rights.{one_fault}
pub use Rattle.shot_repeat.proofs.Packings.{text_stands, text_is_file}
-- It is no longer than the plain text.
pub use Rattle.shot_repeat.proofs.Shorter.{text_is_short}
-- It is the packed text of these shots, and no other text is.
pub use Rattle.shot_repeat.proofs.Packers.{text_is_packed, one_packed_text}
