pub mod Producer
pub mod Scopes
