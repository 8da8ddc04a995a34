-- What the shared daemon stands for.
pub use Rattle.mdns_core.specs.State
pub mod Turns
pub mod Shares
pub mod Packets
pub mod Reading
pub mod Writing
pub mod Ticking
pub mod Tending
pub mod Room
