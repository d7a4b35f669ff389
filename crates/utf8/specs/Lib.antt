pub mod Grammar
pub mod Check
pub mod Onward
pub mod State
pub mod Character
pub mod Helpers
