-- ---- what is kept inside
pub mod Keys
