pub mod Cuts
pub mod Parsing
pub mod Fronts
mod Rows
