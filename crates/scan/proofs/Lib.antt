mod Flats
mod Runs
mod Stops
mod Parts
mod Spelled
mod Goes
pub mod Scanned
pub mod Comments
pub mod Numbers
pub mod Names
pub mod Literals
pub mod Others
mod Examples
pub mod Silent
