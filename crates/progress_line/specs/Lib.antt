-- ---- what is kept inside
pub mod Pace
pub mod Text
pub mod Frames
pub mod Screens
