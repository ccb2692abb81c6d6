pub mod Held
pub mod Texts
pub mod Seen
pub mod Following
pub mod Results
pub mod Going
pub mod Sessions
