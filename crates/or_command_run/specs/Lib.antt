pub mod Recorded
pub mod Budgets
pub mod Run
pub mod Bench
