pub mod Slots
pub mod Lent
