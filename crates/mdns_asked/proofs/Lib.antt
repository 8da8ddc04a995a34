pub mod Putting
pub mod Asking
