pub mod Words
pub mod ReadCalls
pub mod ReadEvents
pub mod ReadItems
pub mod ReadLines
pub mod Printable
