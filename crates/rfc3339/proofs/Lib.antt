pub mod Days
mod Pairs
mod Places
mod Nanos
mod Fields
mod Steps
pub mod Bounds
pub mod Partings
