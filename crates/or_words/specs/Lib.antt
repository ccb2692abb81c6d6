pub mod Word
pub mod Kind
pub mod Settings
