pub mod Cuts
pub mod Lines
pub mod Few
pub mod Vectors
