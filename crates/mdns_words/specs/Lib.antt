pub mod HostLabels
pub mod Options
pub mod Plans
