pub mod Agreements
pub mod Differences
pub mod Walks
pub mod Audits
