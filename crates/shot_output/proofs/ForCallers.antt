-- What the crates above may cite: what holds of the shot list of each output, and of the numbers of a deck that is read.
pub use Rattle.shot_output.proofs.LawLemmas.{has_rules, shots_are_legal, shots_fit, shots_cover, shots_are_few}
pub use Rattle.shot_output.proofs.LawLemmas.{triangles_are_tiles, one_shot_list}
pub use Rattle.shot_output.proofs.TileLemmas.{area_count, tiles_of}
