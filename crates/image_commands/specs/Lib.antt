pub mod Images
pub mod Audit
pub mod Trace
pub mod Ending
pub mod TraceEnding
