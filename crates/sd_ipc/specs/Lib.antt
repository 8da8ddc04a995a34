pub mod Frames
pub mod Parts
pub mod Reading
pub mod Taking
pub mod Again
