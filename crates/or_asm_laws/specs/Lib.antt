pub mod Apart
pub mod Grammar
pub mod Numerals
