pub mod Counting
pub mod Stepped
pub mod Ready
pub mod StimsEnd
pub mod SelfsEnd
pub mod Unlost
