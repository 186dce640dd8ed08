pub mod CodeLaws
pub mod Ended
pub mod Steady
pub mod Widened
