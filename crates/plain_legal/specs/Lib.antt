pub mod Laws
pub mod Trial
