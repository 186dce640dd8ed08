pub mod Evaluation
pub mod Operands
