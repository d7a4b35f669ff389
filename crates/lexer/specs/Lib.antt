pub mod Lexer
pub mod Reading
pub mod Token
pub mod Helpers
