pub mod CodeLaws
pub mod Scoped
pub mod Kept
