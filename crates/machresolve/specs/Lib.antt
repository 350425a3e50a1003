pub mod Cpu
pub mod Report
pub mod ReportViews
pub mod Refusals
pub mod Lines
pub mod CallViews
pub mod Runs
