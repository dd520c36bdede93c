pub mod FamilyLaws
pub mod Limits
pub mod Reached
pub mod RowLaws
