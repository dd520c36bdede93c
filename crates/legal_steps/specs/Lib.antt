pub mod Passes
pub mod Times
pub mod TimedSteps
