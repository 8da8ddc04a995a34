pub mod Opened
pub mod Counting
