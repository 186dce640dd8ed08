pub mod Steady
pub mod Live
pub mod Anew
