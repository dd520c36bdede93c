pub mod Backs
pub mod Windows
pub mod Steps
pub mod Whole
pub mod Members
pub mod Exact
