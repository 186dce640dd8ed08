pub mod Reading
pub mod Answers
pub mod Question
pub mod Step
