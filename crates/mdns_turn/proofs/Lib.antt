pub mod Histories
pub mod Frames
pub mod TurnSteps
pub mod SeatSteps
pub mod Turning
