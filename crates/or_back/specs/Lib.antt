pub mod Tells
pub mod Lines
pub mod Script
pub mod Session
pub mod Backward
pub mod Copies
