-- What the crates above may cite.
--
-- Names and numbers of cells.
pub use Rattle.cell_tree.proofs.NameLemmas.{number_within, targets_below}
-- Placements and chains, and what holds of each reachable cell.
pub use Rattle.cell_tree.proofs.ChainLemmas.{PlacesBy, placement_of, places_by, places_cell, places_at, chain_joined}
pub use Rattle.cell_tree.proofs.ChainLemmas.{end_joined, factor_joined, chain_take, reachable_within, top_reachable}
pub use Rattle.cell_tree.proofs.ChainLemmas.{reach_along, reach_more, along}
-- What a cell shows, by its own and by what the placed cells show; and that a greater depth shows no more.
pub use Rattle.cell_tree.proofs.FlatLemmas.{short_placed, short_below, below, below_same, deep_enough, things_are, flattened_is, count_is}
-- Some element of a list that is made of others.
pub use Rattle.cell_tree.proofs.FlatLemmas.{Has, has_any, any_has, has_left, has_right, has_split, has_slot, slot_has}
pub use Rattle.cell_tree.proofs.FlatLemmas.{has_flat, flat_has, has_map, map_has, contains_slot, slot_contains}
-- Vertices, and how far they are from 0.
pub use Rattle.cell_tree.proofs.FlatLemmas.{vertex_cases, own_vertex, placed_vertex}
pub use Rattle.cell_tree.proofs.ReachLemmas.{near_below, shapes_on_grid}
pub use Rattle.cell_tree.proofs.FactorLemmas.{on_grid, mags_on_grid}
-- A tree has no fault, and all first faults of a layout are of one kind.
pub use Rattle.cell_tree.proofs.TreeLemmas.{no_fault, answered}
