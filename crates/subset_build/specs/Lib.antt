pub mod Families
pub mod Limit
pub mod Views
