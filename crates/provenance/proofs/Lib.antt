pub mod CodeLaws
pub mod Frame
