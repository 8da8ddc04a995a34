pub mod Clashing
pub mod Stormy
pub mod Places
pub mod Ties
pub mod Equals
pub mod Union
