pub mod Calendar
pub mod Grammar
pub mod Instant
pub mod Partings
pub mod Helpers
pub mod Examples
