pub mod Widening
pub mod Rule
pub mod Places
