pub mod Printed
pub mod Reports
pub mod Counts
mod AnswerLines
