pub mod Reads
pub mod Adapters
