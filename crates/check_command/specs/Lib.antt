pub mod Check
pub mod Checked
