mod Signs
pub mod Orders
mod Rooms
pub mod Rows
mod Chunks
