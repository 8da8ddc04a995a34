pub mod Multicasts
pub mod Meeting
