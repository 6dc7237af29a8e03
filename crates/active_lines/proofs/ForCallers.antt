-- What the crates above may cite: lemmas over plain variables.
--
-- Meetings in lists that follow one another, and those of a list by its lines.
pub use Rattle.active_lines.proofs.Meeting.{meeting_left, meeting_right, meeting_seam, meeting_cases, MeetIn, in_left, at_seam, in_right}
pub use Rattle.active_lines.proofs.Seams.{first_in_left, first_in_right, only_in_right}
-- Lines from left to right.
pub use Rattle.active_lines.proofs.Points.{ascend_left, ascend_right, all_before}
-- The first and the last line of a list.
pub use Rattle.active_lines.proofs.Lasts.{last_append, last_split, begins_on}
-- Which neighbours meet above a row.
pub use Rattle.active_lines.proofs.LeaningLemmas.{leans_where_it_meets, meets_where_it_leans}
