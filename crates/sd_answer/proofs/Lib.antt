pub mod Puts
pub mod Known
pub mod Members
pub mod Agreeing
