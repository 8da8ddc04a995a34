pub mod Words
pub mod Generating
