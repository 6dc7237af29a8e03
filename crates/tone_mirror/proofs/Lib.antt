pub mod ImageLemmas
pub mod FrameLemmas
pub mod ForCallers
