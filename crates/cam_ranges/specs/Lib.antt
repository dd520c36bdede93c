pub mod Places
pub mod Gathered
pub mod Searches
pub mod Spans
pub mod Walks
pub mod Laws
