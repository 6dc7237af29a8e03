-- What crates above may cite: words are one command at most.
pub use Rattle.job_words.proofs.OneCommand.{one_command}
