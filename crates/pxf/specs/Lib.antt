pub mod Answers
pub mod Interface
pub mod Suggestions
pub mod Texts
pub mod Timestamps
pub mod TokenFiles
pub mod Helpers
