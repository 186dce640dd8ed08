pub mod Requests
pub mod Carried
