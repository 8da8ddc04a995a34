pub mod Fitted
pub mod MarksOf
pub mod SentBy
pub mod Staged
pub mod Standing
