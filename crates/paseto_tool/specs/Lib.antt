pub mod Error
pub mod Inspect
pub mod Version
pub mod Arguments
pub mod Seal
pub mod Open
pub mod Run
