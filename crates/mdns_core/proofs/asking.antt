pub mod AskedFor
pub mod AskedAfter
