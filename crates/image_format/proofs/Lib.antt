pub mod Walking
pub mod Phases
pub mod Tables
pub mod Wheels
pub mod Zeros
