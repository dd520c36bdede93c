pub mod Decoding
pub mod Ready
pub mod AnyWheels
