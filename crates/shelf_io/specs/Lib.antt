pub mod Whole
pub mod Touching
