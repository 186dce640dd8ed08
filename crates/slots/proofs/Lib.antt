pub mod CodeLaws
pub mod Steady
pub mod Live
pub mod Moved
pub mod Copied
pub mod Likewise
pub mod Shared
pub mod Anew
