mod Texts
pub mod Digits
