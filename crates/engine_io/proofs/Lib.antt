pub mod PeerCounts
pub mod Counting
pub mod Handing
pub mod Staying
