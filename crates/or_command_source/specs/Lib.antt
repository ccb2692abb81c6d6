pub mod Assembly
pub mod Listing
pub mod Listed
pub mod Generation
