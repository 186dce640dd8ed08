pub mod Turns
pub mod Complete
pub mod Total
pub mod Integers
pub mod Live
pub mod Looks
pub mod Inserted
