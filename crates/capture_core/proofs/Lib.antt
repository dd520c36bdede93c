pub mod Numerals
pub mod Instants
pub mod KeptChanges
pub mod InstantsAt
pub mod RisingStamps
pub mod RisingInstants
pub mod Bounded
