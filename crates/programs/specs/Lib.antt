pub mod Loopback
pub mod Runs
