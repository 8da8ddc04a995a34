pub mod Named
pub mod Typed
pub mod Owned
pub mod Due
pub mod Live
pub mod Bits
