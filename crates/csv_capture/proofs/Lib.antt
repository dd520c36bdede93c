pub mod Numbers
pub mod Decimals
pub mod Places
pub mod RecordList
pub mod Reading
pub mod Keeping
pub mod Rising
pub mod BoundedTimes
