pub mod Stops
pub mod Scripts
pub mod Histories
pub mod Statuses
pub mod Lines
