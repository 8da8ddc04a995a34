pub mod Among
pub mod OperationPlaces
pub mod Rising
