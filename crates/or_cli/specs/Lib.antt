pub mod Top
pub mod Names
