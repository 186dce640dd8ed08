pub mod Lattice
pub mod Members
pub mod CodeLaws
