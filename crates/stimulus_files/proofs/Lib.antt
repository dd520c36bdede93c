pub mod Digits
pub mod KeptChanges
pub mod AlongStamps
pub mod SameInstants
pub mod StampsRead
pub mod Merging
pub mod Texts
pub mod SmallChanges
