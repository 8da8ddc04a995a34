pub mod Taken
pub mod Legality
