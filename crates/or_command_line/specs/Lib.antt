pub mod Words
pub mod Reading
pub mod Names
pub mod Settings
pub mod Workloads
pub mod Command
pub mod Usage
