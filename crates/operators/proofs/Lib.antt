pub mod Formed
pub mod Written
