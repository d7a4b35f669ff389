mod Characters
mod Sixes
mod Texts
pub mod Rfc4648
mod AlphabetTests
mod Sights
mod Verdicts
mod Values
mod Groups
pub mod Answers
