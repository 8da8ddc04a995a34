pub mod Queries
pub mod Releasing
pub mod Following
pub mod Laws
pub mod Waiting
pub mod Ticked
pub mod Keeping
pub mod Ours
