pub mod Nodes
pub mod Recipients
