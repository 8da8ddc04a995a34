pub mod Kept
pub mod Standing
pub mod Sorting
pub mod Last
pub mod After
pub mod Places
