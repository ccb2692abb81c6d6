pub mod Loaded
pub mod Opened
pub mod Written
