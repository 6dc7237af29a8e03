-- ---- what is kept inside
pub mod Cuts
pub mod Parts
pub mod Strips
pub mod Growing
