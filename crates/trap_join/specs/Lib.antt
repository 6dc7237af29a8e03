-- ---- what is kept inside
pub mod Maximal
pub mod Fronts
pub mod Joins
