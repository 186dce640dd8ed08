pub mod CodeLaws
pub mod Steady
pub mod Live
pub mod Narrowed
pub mod Room
pub mod Recorded
pub mod Anew
