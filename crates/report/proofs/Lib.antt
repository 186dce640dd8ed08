pub mod LineLaws
pub mod ReportLaws
pub mod Singles
pub mod Seen
