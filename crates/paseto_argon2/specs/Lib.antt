pub mod Permutation
pub mod Block
pub mod VariableHash
pub mod Filling
pub mod Settings
pub mod Allowed
pub mod Derivation
