pub mod Notes
pub mod Within
