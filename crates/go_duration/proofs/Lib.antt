mod FloatChain
mod FloatErrors
mod Scales
mod FloatValues
mod SmallScales
mod LargeScales
mod Distance
mod Firsts
mod DigitSteps
mod DigitsRead
mod FrontDigits
mod UnitLaws
mod PartSteps
mod SumSteps
mod RunSteps
mod WrittenParts
mod WrittenCuts
mod WrittenRuns
pub mod Durations
pub mod WrittenSums
