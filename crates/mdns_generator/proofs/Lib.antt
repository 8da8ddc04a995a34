pub mod Counting
pub mod Leading
pub mod Goodness
pub mod Short
pub mod Playing
