pub mod Guards
pub mod Operands
