pub mod Cousot
pub mod Interval
pub mod Bound
pub mod Proper
