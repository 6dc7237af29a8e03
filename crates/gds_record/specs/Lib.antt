-- ---- what is promised, in reading order
pub mod Heads
pub mod Runs
pub mod Framing
pub mod Reals
pub mod Numbers
pub mod Faults
