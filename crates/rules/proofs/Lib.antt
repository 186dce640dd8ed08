pub mod CodeLaws
pub mod RuleLaws
