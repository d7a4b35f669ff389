mod Stripping
pub mod QuoteSearch
mod LineScans
mod RawParts
pub mod Triples
pub mod ValueOctets
mod Examples
