pub mod Fits
pub mod Live
pub mod Union
