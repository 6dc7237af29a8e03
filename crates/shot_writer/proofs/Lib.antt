mod SoFar
mod Triangles
pub mod ForCallers
