pub mod CodeLaws
pub mod Live
pub mod Steady
pub mod Anew
