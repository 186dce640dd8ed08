pub mod Store
pub mod Calls
