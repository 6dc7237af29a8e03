pub mod Steps
pub mod Alike
pub mod Windings
pub mod Unique
pub mod RunLemmas
pub mod EventLemmas
pub mod HalfwayLemmas
pub mod ForCallers
