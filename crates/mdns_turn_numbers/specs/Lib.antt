pub mod Numbers
pub mod Dial
