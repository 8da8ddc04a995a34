pub mod Records
pub mod RecordText
pub mod ReadRecord
pub mod Conflicts
