pub mod InOrder
pub mod SortedOnce
pub mod PutBehind
pub mod Least
pub mod Places
pub mod Permutations
