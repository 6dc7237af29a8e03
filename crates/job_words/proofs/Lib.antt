pub mod Texts
pub mod OneCommand
pub mod ForCallers
