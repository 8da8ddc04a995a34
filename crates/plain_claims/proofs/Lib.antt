pub mod Lasts
pub mod Named
pub mod InTurn
