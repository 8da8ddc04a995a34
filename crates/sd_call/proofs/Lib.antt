pub mod Forms
pub mod AnswerOrder
pub mod AnswerLists
pub mod ReplayLaws
pub mod ReplayRuns
pub mod Holdings
pub mod KeptLists
