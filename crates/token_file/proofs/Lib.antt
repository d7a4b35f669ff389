mod Numbers
mod Rows
mod Pieces
mod Judging
mod Storing
mod Frames
mod Writing
mod Reading
mod RulesPlain
mod RoundRows
mod RoundFiles
mod Refusals
mod RoundCalls
mod Examples
pub mod AnswerBounds
