pub mod Fraction
pub mod Digits
pub mod Units
pub mod Parse
pub mod Stages
pub mod Written
pub mod Words
pub mod Examples
