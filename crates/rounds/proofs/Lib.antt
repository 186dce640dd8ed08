pub mod CodeLaws
pub mod Brings
pub mod Joined
pub mod Pays
pub mod Live
pub mod Steady
pub mod Anew
