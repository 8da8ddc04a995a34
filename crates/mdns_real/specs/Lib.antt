pub mod Datagrams
pub mod Doors
pub mod Faults
pub mod Lacks
pub mod Places
