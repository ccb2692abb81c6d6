pub mod Cache
pub mod Profile
pub mod Tally
pub mod Text
