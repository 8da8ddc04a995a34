pub mod Owing
pub mod Keys
pub mod Laws
pub mod Asked
pub mod Listed
pub mod Marks
pub mod Satisfied
