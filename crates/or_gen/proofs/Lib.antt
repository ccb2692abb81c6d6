pub mod Delays
pub mod Sizes
