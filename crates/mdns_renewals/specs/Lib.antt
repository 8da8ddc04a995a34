pub mod Occasions
pub mod Seen
pub mod Wishes
