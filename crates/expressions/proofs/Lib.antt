pub mod CodeLaws
pub mod Nested
