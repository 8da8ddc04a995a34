pub mod Pieces
pub mod ServiceTypes
pub mod Renaming
