pub mod Ears
pub mod Openings
pub mod Endings
pub mod Booting
pub mod Serving
