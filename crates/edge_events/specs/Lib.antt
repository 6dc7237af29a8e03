-- ---- what is kept inside
pub mod EventNumbers
pub mod Orders
pub mod Sources
