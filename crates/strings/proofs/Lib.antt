mod Escapes
mod PieceFacts
mod Steps
mod Decodes
mod Pairs
mod Parts
mod Turns
mod Writings
mod Bounds
mod Closings
mod Judges
mod Notings
pub mod Laws
mod Examples
