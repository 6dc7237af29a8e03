-- What crates above cite of this one's proofs: lists of edges that add up alike.
pub use Rattle.column_sweep.proofs.Adding.{alike_refl, alike_trans, alike_append, winding_alike, balanced_alike}
