pub mod Hunt
pub mod Tries
pub mod Finishing
