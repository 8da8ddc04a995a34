pub mod Finding
pub mod Layers
pub mod Removed
pub mod Pushing
pub mod Changes
