pub mod Reached
pub mod Left
pub mod Calls
pub mod SeedCalls
pub mod RuleCalls
pub mod Played
