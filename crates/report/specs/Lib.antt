pub mod Line
pub mod Report
pub mod Places
pub mod Seen
