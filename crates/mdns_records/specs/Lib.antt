pub mod State
pub mod After
pub mod Visits
