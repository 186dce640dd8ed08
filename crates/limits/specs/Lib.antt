pub mod Charge
pub mod Records
pub mod Refusal
pub mod Metered
pub mod Budget
pub mod Meter
pub mod Context
