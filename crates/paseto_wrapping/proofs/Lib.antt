pub mod Reading
pub mod Families
pub mod Pies
pub mod Protected
pub mod Sealings
pub mod SodiumSealings
pub mod KeyLaws
