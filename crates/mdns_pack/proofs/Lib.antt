pub mod Chains
pub mod Sorting
pub mod Found
pub mod Replies
pub mod OldWay
pub mod Rising
pub mod Listings
