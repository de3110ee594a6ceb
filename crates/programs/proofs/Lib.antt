pub mod Loopbacks
