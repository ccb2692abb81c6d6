pub mod Drawing
pub mod Running
pub mod Makes
pub mod Searches
