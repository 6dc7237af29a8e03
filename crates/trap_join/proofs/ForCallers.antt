-- What the crates above may cite: lemmas over plain variables, by topic. Their own modules are this crate's answers.
--
-- Runs of an area in a row: two that share a tile are one, and others stand apart; the same runs of another area.
pub use Rattle.trap_join.proofs.Rows.{inside_at, same_left, same_right, runs_apart}
pub use Rattle.trap_join.proofs.Slabs.{run_in, run_in_rows}
-- Maximal trapezoids: their tiles, the runs in their rows, and two that share a row or a tile.
pub use Rattle.trap_join.proofs.MaximalLemmas.{in_at, tile_inside, run_left, run_right, same_rows, same_maximal}
-- Lists of them against joined lists, and the tiles of a list that covers an area.
pub use Rattle.trap_join.proofs.MaximalLemmas.{maximal_joined, maximal_cover, all_found, joined_maximal, member_maximal, covered}
-- The runs of a scan are the runs of its area.
pub use Rattle.trap_join.proofs.Slabs.{scan_run, found_run}
-- Two shots between the same lines, one upon the other, and what is joined so far, one slab further.
pub use Rattle.trap_join.proofs.Growth.{taller_shot, joined_more}
-- Before the first slab, what grows as shots, and all that grows ended after the last slab.
pub use Rattle.trap_join.proofs.Growth.{joined_none, front_shots, joined_end}
-- Trapezoids that go on in a run, and runs in which none goes on.
pub use Rattle.trap_join.proofs.XOrder.{goes_on_left, goes_on_right, goes_on_by}
pub use Rattle.trap_join.proofs.Merging.{in_none, bottom_here}
-- Members of lists, and parts of lists that stand in order.
pub use Rattle.trap_join.proofs.Members.{is_first, among_rest, all_members, Found, found, counted, one_only}
pub use Rattle.trap_join.proofs.Members.{none_counted, some_member, any_by, mapped, origin, passed, passing}
pub use Rattle.trap_join.proofs.Orders.{order_append, order_first, order_second, order_between}
-- What a join has given, and what it covers, at an equal rule, at equal edges and at an equal window.
pub use Rattle.trap_join.proofs.Advances.{moved_rule, stays_joined, moved_cover}
-- The first of those that wait is given, and what was given where nothing waits or grows.
pub use Rattle.trap_join.proofs.Advances.{waits_as, taken_some, taken_maximal, taken_after, ends_joined, ends_maximal, ends_covers}
