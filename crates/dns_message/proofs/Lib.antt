mod Rows
pub mod Whole
pub mod Parts
pub mod Once
pub mod Bounded
pub mod Sequences
pub mod DataNames
pub mod DataAgain
pub mod RawAgain
pub mod DataRead
pub mod RecordSteps
pub mod RecordsRead
pub mod HeaderAgain
pub mod ReadAgain
pub mod ValidParts
pub mod Valid
pub mod Drafts
pub mod Kept
