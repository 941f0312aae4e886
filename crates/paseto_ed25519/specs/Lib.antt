pub mod Ed25519
pub mod Uniqueness
