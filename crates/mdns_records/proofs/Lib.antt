pub mod Named
pub mod Later
pub mod Orders
pub mod Holding
pub mod Taken
pub mod Walking
pub mod Fitting
pub mod Heard
