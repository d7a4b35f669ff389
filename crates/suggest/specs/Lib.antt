pub mod Counts
pub mod Suggestions
pub mod Claim
pub mod Calls
pub mod Helpers
