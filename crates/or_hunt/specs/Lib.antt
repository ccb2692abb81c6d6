pub mod Draws
pub mod Drawn
pub mod Failing
pub mod Making
