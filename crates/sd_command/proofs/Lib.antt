pub mod Listening
pub mod Talking
pub mod Commanding
