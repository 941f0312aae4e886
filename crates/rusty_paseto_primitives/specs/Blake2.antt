pub mod Block
pub mod Chain
pub mod Hasher
pub mod Keyed
pub mod Lanes
pub mod Rows
