pub mod First
pub mod Lines
pub mod Pairs
pub mod Program
pub mod Source
pub mod Sentences
pub mod Symbols
