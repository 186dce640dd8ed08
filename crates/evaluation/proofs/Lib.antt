pub mod CodeLaws
pub mod Operands
pub mod Formed
pub mod Live
pub mod Steady
