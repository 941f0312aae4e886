pub mod Forgery
pub mod Hasher
pub mod Limbs
pub mod Sealing
pub mod SealingLaws
pub mod Tag
