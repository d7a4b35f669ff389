pub mod Rules
pub mod Format
pub mod Fits
pub mod Calls
