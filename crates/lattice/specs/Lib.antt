pub mod Value
pub mod Constants
pub mod Lattice
pub mod Answers
