pub mod Rfc4648
pub mod Lenient
pub mod Leniencies
pub mod Calls
pub mod Helpers
pub mod Examples
