pub mod Between
pub mod Cutting
