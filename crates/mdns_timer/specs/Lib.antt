pub mod Strict
pub mod Timing
pub mod Tree
pub mod Parts
