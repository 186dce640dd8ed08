pub mod CodeLaws
pub mod Outcomes
pub mod Sorted
pub mod Numbers
