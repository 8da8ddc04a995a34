pub mod Pushed
pub mod Typed
pub mod Mapped
pub mod Named
pub mod Renewed
pub mod Wished
