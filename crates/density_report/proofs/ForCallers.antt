-- What the crates above may cite: the numbers of a table are true of its area, and an output has one table.
pub use Rattle.density_report.proofs.BoundLemmas.{true_numbers}
pub use Rattle.density_report.proofs.OneTable.{one_table}
