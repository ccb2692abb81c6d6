pub mod Parts
pub mod Names
pub mod Ranges
pub mod Slots
pub mod Texts
