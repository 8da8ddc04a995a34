pub mod Onces
pub mod KeyOrder
pub mod Sorting
pub mod Renewals
pub mod Times
pub mod OperationPlaces
