mod Alternatives
pub mod Chars
mod Runs
pub mod Valid
pub mod Concatenations
pub mod Boundaries
mod Leads
mod Sizes
pub mod States
mod Scans
mod Shorts
pub mod Codes
pub mod RoundTrip
mod Cases
