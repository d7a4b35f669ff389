mod Decimals
mod Lines
mod Pieces
mod Measures
mod Fills
mod Listings
pub mod Suffices
mod ExampleHolds
