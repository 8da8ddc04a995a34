pub mod Tokens
pub mod Requests
pub mod Boots
pub mod Links
pub mod Lines
pub mod CommandText
pub mod Writable
