pub mod Enclosing
pub mod CodeLaws
