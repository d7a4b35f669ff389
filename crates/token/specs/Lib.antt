pub mod Kind
pub mod Reason
pub mod Place
pub mod Layout
pub mod Examples
pub mod Helpers
