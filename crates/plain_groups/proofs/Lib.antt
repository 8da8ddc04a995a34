pub mod Numbers
pub mod Since
pub mod Steps
