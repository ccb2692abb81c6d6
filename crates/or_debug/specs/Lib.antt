pub mod Turns
pub mod Points
pub mod Hits
pub mod BoardText
pub mod Session
pub mod Standing
pub mod Answers
