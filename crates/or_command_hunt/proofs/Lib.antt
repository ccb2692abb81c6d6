pub mod Heard
pub mod Ranges
pub mod Hunts
