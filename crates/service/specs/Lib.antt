pub mod Told
pub mod Lent
