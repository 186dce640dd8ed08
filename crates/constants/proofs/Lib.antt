pub mod CodeLaws
pub mod Keyed
pub mod Steps
pub mod Kept
