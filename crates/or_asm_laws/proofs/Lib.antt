pub mod ApartPieces
pub mod Lines
pub mod Numbers
pub mod Numerals
pub mod Operands
pub mod Places
pub mod Readings
pub mod SlotFits
pub mod Sources
pub mod Spelled
pub mod Spellings
pub mod Statements
mod Names
pub mod Programs
