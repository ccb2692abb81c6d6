pub mod Ranges
pub mod Caches
pub mod Tracks
pub mod Worlds
pub mod Regions
