pub mod Lists
pub mod Ids
