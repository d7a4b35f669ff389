pub mod Order
pub mod Rows
pub mod Helpers
