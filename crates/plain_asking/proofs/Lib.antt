pub mod Refreshes
pub mod Begins
pub mod Lists
pub mod Gaps
pub mod HeardBy
