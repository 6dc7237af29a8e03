-- What crates above may cite: bytes hold one layout at most, one first fault at most, and never both.
pub use Rattle.gds_reader.proofs.FaultLemmas.{one_layout, one_fault, no_layout_with_fault}
