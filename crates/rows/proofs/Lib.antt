pub mod RowLaws
pub mod CodeLaws
pub mod Formed
pub mod Good
pub mod Lost
