pub mod Clashes
pub mod Ties
pub mod Storms
