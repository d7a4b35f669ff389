pub mod Lines
pub mod Listing
pub mod Example
pub mod Rows
