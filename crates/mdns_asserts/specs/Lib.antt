pub mod Earned
pub mod Names
