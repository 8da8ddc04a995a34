pub mod After
pub mod Gathered
