pub mod Row
pub mod WellFormed
