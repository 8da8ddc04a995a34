pub mod Accepted
pub mod Changes
pub mod Limits
pub mod Pigeons
pub mod Owned
pub mod Groups
pub mod Few
