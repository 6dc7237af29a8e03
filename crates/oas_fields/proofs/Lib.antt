pub mod TakeLemmas
pub mod PlainLemmas
