-- What the crates above may cite: lemmas over plain variables, by topic. Their own modules are this crate's answers.
--
-- The shots of a trapezoid: its tiles, each once; legal, within reach and within the limits.
pub use Rattle.fracture.proofs.CutLemmas.{same_tiles, are_shots, fit_limits}
-- The same of the shots of a list of trapezoids.
pub use Rattle.fracture.proofs.CutLemmas.{same_tiles_of_list, list_of_shots, list_fits}
-- The rows of a shot below a row, and from a row on, are shots.
pub use Rattle.fracture.proofs.PartLemmas.{below_shot, from_row_shot}
-- No cut is needless, over every area: within a trapezoid, between the trapezoids of a joined list whose tiles are in
-- the area, and of lists of shots of bands one after the other.
pub use Rattle.fracture.proofs.EconomyLemmas.{none_needless}
pub use Rattle.fracture.proofs.JoinedEconomy.{joined_needless, shots_in_window}
pub use Rattle.fracture.proofs.Bands.{EndsBy, BeginsAt, needless_append}
