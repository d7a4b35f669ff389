pub mod Lexeme
pub mod Reports
pub mod Helpers
