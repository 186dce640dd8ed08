pub mod Expression
pub mod Places
