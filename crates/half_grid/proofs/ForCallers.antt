-- What the crates above may cite: lemmas over plain variables, by topic. Their own modules are this crate's answers.
--
-- Numbers and places in a row, and what names a tile or a line.
pub use Rattle.half_grid.proofs.Places.{place_at_most, right_by_place, number_below, left_by_place, same_strips, same_number, one_line, legal_places}
-- What names a line by two of its points, and a trapezoid by its parts.
pub use Rattle.half_grid.proofs.Naming.{line_names, same_trapezoid}
-- The strips of a tile by its number n: 2i <= n <= 2i + 1, 4p <= n + 2j + 1 <= 4p + 3, 4q <= n - 2j - 1 <= 4q + 3.
pub use Rattle.half_grid.proofs.StripBounds.{i_low, i_high, p_low, p_high, q_low, q_high}
-- The order of two places from row to row, and a trapezoid's tiles by numbers.
pub use Rattle.half_grid.proofs.MeetingLemmas.{places_differ, order_changes, number_between, in_by_number}
-- What is within reach.
pub use Rattle.half_grid.proofs.ReachLemmas.{strip_within, tile_of_shot_within}
-- The winding of a point list, edge by edge, and the line through two points of one.
pub use Rattle.half_grid.proofs.WindingLemmas.{winding-cons, winding_from, winding_along, crossing_up, crossing_down}
pub use Rattle.half_grid.proofs.WindingLemmas.{crossing_none, crossing_small, count_by-cons}
pub use Rattle.half_grid.proofs.RingLemmas.{line_is, ring_winding, ring_inside, ring_outside, quad_of_shot}
-- The winding of edges, and the tiles of a trapezoid as a test.
pub use Rattle.half_grid.proofs.EdgeLemmas.{windings_add, one_inside, none_outside, winding_is_count, operands_apart, has_in, in_has}
-- The number of a trapezoid's tiles, and the tile of a number in a row.
pub use Rattle.half_grid.proofs.SizeLemmas.{size_is, tile_with, tile_with_number}
-- Joined lists, and lists that cover one set.
pub use Rattle.half_grid.proofs.JoinedLemmas.{one_joined_list, same_tiles}
-- Where the winding of a closed outline is 0, and tests on whole numbers by the facts that they decide.
pub use Rattle.half_grid.proofs.OutlineLemmas.{closed_right, closed_left, closed_under, closed_over, le_yes, le_no}
pub use Rattle.half_grid.proofs.LineLemmas.{int_eq_true, int_eq_false, int_eq_same, int_eq_other}
-- The trapezoid of one row: that it is a shot, its tiles by number, and its corners by places.
pub use Rattle.half_grid.proofs.OneRow.{row_shot, row_has, bottom_close, top_close}

-- for `omega`: where a tile's strips lie, by its number
pub ruleset tile_bounds = (i_low, i_high, p_low, p_high, q_low, q_high)

-- for `search` and `grind`: right and left of a line, by number and place, both ways
pub ruleset sides_by_place = (place_at_most, right_by_place, number_below, left_by_place)

-- what names a tile, and what names a line
pub ruleset names = (same_strips, same_number, one_line)
