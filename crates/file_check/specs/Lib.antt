-- ---- what is promised, in reading order
pub mod Files
pub mod Certificates
-- ---- what is kept inside
pub mod Fronts
pub mod Judgements
