pub mod Compile
pub mod Ending
