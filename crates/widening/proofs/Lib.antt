pub mod CodeLaws
pub mod Place
pub mod Rule
