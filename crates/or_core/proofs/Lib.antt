pub mod Accesses
pub mod Aligned
pub mod Begins
pub mod Controls
pub mod InPlace
pub mod Nexts
pub mod Pages
pub mod Progress
pub mod Quiets
pub mod TracedSteps
pub mod Traces
mod Vectors
