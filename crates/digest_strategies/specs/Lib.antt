pub mod Heard
pub mod Jobs
pub mod Workers
