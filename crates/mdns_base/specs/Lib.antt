pub mod Outside
pub mod Memory
pub mod Hosts
pub mod SeedWords
