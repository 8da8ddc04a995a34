pub mod State
pub mod Kept
pub mod Asked
pub mod Timed
pub mod Walked
pub mod Places
pub mod ByWalks
pub mod Planned
