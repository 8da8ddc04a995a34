pub mod Runs
pub mod Places
pub mod Refusals
pub mod Lookups
