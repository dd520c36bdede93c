pub mod Loaded
pub mod Audited
pub mod Tracing
pub mod Traced
pub mod Ready
pub mod AuditsEnd
pub mod TracesEnd
