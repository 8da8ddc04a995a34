pub mod Clashing
pub mod Numbers
pub mod Turned
