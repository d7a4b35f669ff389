pub mod NextToken
pub mod From
mod Laid
mod Claims
pub mod Timestamps
mod Rows
pub mod Fits
pub mod Refusals
mod Places
mod Puts
pub mod Turns
mod TextAnswers
mod TokenAnswers
mod Chains
mod Suffices
pub mod AnswerBounds
mod MiniatureHolds
