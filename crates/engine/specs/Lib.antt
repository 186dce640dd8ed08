pub mod Run
pub mod Call
pub mod Lent
