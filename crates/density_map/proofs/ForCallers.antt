-- What the crates above may cite: lemmas over plain variables.
--
-- The count of a window by the trapezoids that have the area's tiles there, and how small it is.
pub use Rattle.density_map.proofs.LawLemmas.{sum_is_count, one_more, each_once, no_other, same_tile}
pub use Rattle.density_map.proofs.SumLemmas.{window_sum_is, at_most_one, window_few}
-- Windows side by side.
pub use Rattle.density_map.proofs.FloorLemmas.{next_side, multiples, less_by_multiples, IsFloor, floor_is, floor_of}
pub use Rattle.density_map.proofs.FloorLemmas.{gap_is, gap_step, gap_value, no_gap, fits_near}
pub use Rattle.density_map.proofs.Numbers.{natural_is, natural_none}
-- A window that a trapezoid's box doesn't meet, and a trapezoid's tile in its box.
pub use Rattle.density_map.proofs.BoxLemmas.{in_box, none_beside}
