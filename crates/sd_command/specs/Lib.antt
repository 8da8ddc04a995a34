pub mod Commands
pub mod Endings
pub mod Lines
pub mod Hearing
pub mod Runs
pub mod Steps
