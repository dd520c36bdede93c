pub mod Same
pub mod Options
pub mod Spoken
pub mod Numbers
pub mod Orders
pub mod Words
