pub mod Reading
pub mod Writing
pub mod Compressing
pub mod Chains
