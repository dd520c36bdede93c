pub mod Ready
pub mod Loading
pub mod Ending
