pub mod Replies
pub mod Ticks
pub mod Quiet
pub mod Due
pub mod Ticked
