pub mod Generated
pub mod Goodness
pub mod Summaries
