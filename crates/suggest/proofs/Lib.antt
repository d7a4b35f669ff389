mod WrittenBytes
mod FirstTokens
mod SeenTexts
mod PartCuts
mod PieceRuns
mod PieceWalks
mod PieceFronts
mod PieceParts
mod SeenForms
mod SeenRuns
mod CutForms
mod Cuts
mod Seams
mod TriedBytes
mod Fills
mod Turns
mod Claims
pub mod Answers
