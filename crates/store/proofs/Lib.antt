pub mod Opened
pub mod CodeLaws
pub mod Frame
