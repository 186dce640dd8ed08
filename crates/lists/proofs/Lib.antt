pub mod Unions
pub mod ListLaws
pub mod LiveLaws
pub mod CodeLaws
pub mod Merging
