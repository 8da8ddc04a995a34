pub mod Same
pub mod RawForms
pub mod Words
pub mod KindTexts
pub mod WrittenRecords
pub mod AddressOrder
mod Rows
