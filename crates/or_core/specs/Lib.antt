pub mod Follows
pub mod PrivateStep
pub mod Access
pub mod Next
pub mod Quiet
pub mod TracedSteps
