mod Passed
mod Given
