pub mod Keeping
pub mod OtherTurns
pub mod Scripts
pub mod Vectors
pub mod Standing
pub mod LastTurns
pub mod SearchingBack
pub mod Sessions
