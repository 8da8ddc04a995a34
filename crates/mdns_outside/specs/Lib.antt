pub mod Parts
pub mod Doors
pub mod Fakes
pub mod Plugs
pub mod Plugged
pub mod Places
pub mod Noting
pub mod Played
