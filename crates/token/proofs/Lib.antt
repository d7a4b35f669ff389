pub mod Places
pub mod KindNumbers
pub mod Reasons
pub mod ReasonNumbers
