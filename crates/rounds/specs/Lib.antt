pub mod Locals
pub mod Round
pub mod Lent
