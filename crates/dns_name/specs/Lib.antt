pub mod Names
pub mod NameText
pub mod TextItems
pub mod ReadName
pub mod InPlace
