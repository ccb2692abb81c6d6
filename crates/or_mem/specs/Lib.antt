pub mod Memory
pub mod Caches
