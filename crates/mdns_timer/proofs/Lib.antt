pub mod Placed
pub mod Pairs
pub mod Paths
pub mod Trees
pub mod Parted
pub mod LeastOf
pub mod LeastBoth
