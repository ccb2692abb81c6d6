pub mod Images
pub mod Headers
