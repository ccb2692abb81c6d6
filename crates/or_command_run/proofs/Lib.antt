pub mod Stopping
pub mod Runs
pub mod Benches
pub mod Behind
pub mod Used
