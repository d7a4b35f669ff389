mod FirstBytes
mod Lexed
mod Lexes
pub mod StrictNotes
pub mod FoundToken
mod Puts
mod Marks
