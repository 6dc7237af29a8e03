mod Flattening
pub mod ForCallers
mod Merging
mod StableMerge
