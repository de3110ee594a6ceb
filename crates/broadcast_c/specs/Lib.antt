pub mod Calls
pub mod Counting
pub mod Coverages
pub mod Holding
pub mod Law
pub mod Logs
pub mod Packets
pub mod Storing
