pub mod Bytes
pub mod Grammar
pub mod Errors
pub mod Example
pub mod Reader
