pub mod Edwards25519
pub mod Extended
pub mod Group
pub mod Multiples
