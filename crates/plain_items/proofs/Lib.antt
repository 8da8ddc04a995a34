pub mod LastEntries
