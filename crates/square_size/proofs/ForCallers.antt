-- What the crates above may cite: which tiles are near to a trapezoid, the ring of one, and the edges of the rings of a
-- list, over plain variables.
pub use Rattle.square_size.proofs.NearLaw.{half_twice, near_by_strips}
pub use Rattle.square_size.proofs.RingLaw.{ring_inside, ring_outside, near_or_not}
pub use Rattle.square_size.proofs.RingPoints.{ring_on_grid, ring_within_reach}
pub use Rattle.square_size.proofs.EdgeWindings.{edges_have_winding}
pub use Rattle.square_size.proofs.GrownLists.{grown_wind, others_do_not_wind, grown_not_for_other}
pub use Rattle.square_size.proofs.Balance.{grown_are_balanced}
