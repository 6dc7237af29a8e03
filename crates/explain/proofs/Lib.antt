pub mod Texts
pub mod LeftOnly
