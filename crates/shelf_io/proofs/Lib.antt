pub mod Front
pub mod Touching
