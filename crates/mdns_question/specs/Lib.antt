pub mod Contents
pub mod Tracking
pub mod Next
pub mod Standing
pub mod Refreshing
pub mod Kept
pub mod Arranged
pub mod Placed
