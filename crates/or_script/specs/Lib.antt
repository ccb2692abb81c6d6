pub mod Parts
pub mod Operands
pub mod Command
pub mod Script
pub mod Last
pub mod Sentences
