pub mod Sizing
pub mod OneList
pub mod OneFamily
pub mod OneSize
pub mod SizesEnd
