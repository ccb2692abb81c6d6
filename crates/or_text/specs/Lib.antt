pub mod Hexadecimal
pub mod Keeps
pub mod Letters
pub mod Numerals
pub mod Sentences
