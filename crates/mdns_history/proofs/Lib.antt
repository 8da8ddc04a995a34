pub mod AllOpen
pub mod LifetimeSteps
mod LifetimeAll
pub mod Steps
mod Played
mod HeardRows
mod AskedRows
mod ClaimedRows
mod RepliedRows
mod AnnouncedRows
mod SessionRows
mod Transcripts
mod SmallRows
mod StageRows
pub mod Texts
pub mod TokenTexts
pub mod RecordTexts
pub mod CallTexts
pub mod EventTexts
pub mod SentTexts
pub mod EntryTexts
pub mod Determined
mod GoodCalls
pub mod Stages
pub mod SessionLists
pub mod ReplySteps
pub mod EntryReplay
pub mod CallFacts
pub mod Apart
pub mod LegalReplay
pub mod LegalQueue
