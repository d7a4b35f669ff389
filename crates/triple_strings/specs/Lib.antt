pub mod Dedent
pub mod Triple
pub mod Helpers
