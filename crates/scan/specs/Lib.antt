pub mod Run
pub mod Comment
pub mod Name
pub mod Bytes
pub mod Other
pub mod Number
pub mod Helpers
