pub mod Rule
pub mod Read
