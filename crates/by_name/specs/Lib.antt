pub mod At
pub mod Filed
pub mod Lends
