pub mod Lasts
pub mod Laws
pub mod Marks
