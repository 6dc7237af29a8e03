-- What the crates above may cite: the table of pieces, after lists are pushed.
pub use Rattle.flat_walk.proofs.TableLemmas.{lists_pushed, lists_apart, pushed_length, once_here, once_again, once_stays, none_there}
-- Closed outlines on the half grid, and their images.
pub use Rattle.flat_walk.proofs.Motions.{IsLoop, move_loop, image_loop}
