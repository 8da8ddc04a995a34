pub mod records
pub mod asking
pub mod ticks
pub mod step
pub mod Plans
pub mod Refused
pub mod Counted
