pub mod Event
pub mod Race
pub mod Kept
pub mod Records
pub mod Text
pub mod Lines
pub mod Adds
