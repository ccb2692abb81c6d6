pub mod Growth
pub mod Executes
pub mod Accesses
pub mod Steps
pub mod Turns
pub mod PrivateSteps
pub mod Vectors
