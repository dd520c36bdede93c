pub mod FileNames
