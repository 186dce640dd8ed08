pub mod Thresholds
pub mod Optional
