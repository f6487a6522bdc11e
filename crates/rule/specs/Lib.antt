pub mod Verdict
pub mod Judge
pub mod Rule
pub mod Answers
pub mod Results
