pub mod Reading
pub mod Writing
pub mod Packing
pub mod Drafting
