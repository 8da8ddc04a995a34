pub mod Lists
pub mod Named
pub mod Taking
pub mod Asks
pub mod Runs
