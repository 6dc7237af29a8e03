mod Told
mod Causes
mod Goes
mod Rows
pub mod ForCallers
