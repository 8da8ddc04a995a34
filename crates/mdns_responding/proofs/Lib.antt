mod Each
mod Tick
mod Announced
mod Ending
mod Staying
mod TakenBack
mod Wanted
mod Ended
pub mod Following
mod Due
