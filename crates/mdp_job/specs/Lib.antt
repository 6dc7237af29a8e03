-- ---- what is promised, in reading order
pub mod Clauses
pub mod Parts
pub mod FileFaults
pub mod Runs
pub mod Headline
pub mod Outputs
pub mod ShotFiles
pub mod Filing
pub mod Splitting
pub mod Keeping
pub mod Generating
pub mod Denoted
pub mod Faults
pub mod Certificates
pub mod Densities
-- ---- what is kept inside
pub mod Checking
pub mod FileAnswers
pub mod FieldAnswers
pub mod Table
