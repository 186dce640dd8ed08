pub mod CodeLaws
pub mod CallLaws
pub mod Seeded
pub mod Beside
pub mod Kept
pub mod KeptInterval
pub mod KeptPredicate
