pub mod Naming
pub mod Contents
pub mod Claiming
pub mod Standing
pub mod Kept
pub mod Laws
pub mod Answering
