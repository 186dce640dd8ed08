pub mod CodeLaws
pub mod Theorems
