pub mod Step
pub mod Pass
pub mod Lent
