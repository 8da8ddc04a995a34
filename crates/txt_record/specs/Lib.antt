pub mod Strings
pub mod Pairs
pub mod Places
