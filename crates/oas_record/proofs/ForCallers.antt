-- What a crate that reads the records of a file may cite.
pub use Rattle.oas_record.proofs.RecordReaders.{one_record}
