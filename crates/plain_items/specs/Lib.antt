pub mod LastEntry
pub mod Changes
