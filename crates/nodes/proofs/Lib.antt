pub mod CodeLaws
pub mod NodeLaws
pub mod Descent
