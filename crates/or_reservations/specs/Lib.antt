pub mod Slots
pub mod Tracks
