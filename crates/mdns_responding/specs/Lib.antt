pub mod Announced
pub mod AnnouncedLaws
pub mod Told
pub mod Laws
