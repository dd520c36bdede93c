pub mod Counts
pub mod Told
pub mod Lines
pub mod Sessions
pub mod Covers
pub mod Laws
