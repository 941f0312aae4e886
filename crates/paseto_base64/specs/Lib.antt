pub mod Alphabet
pub mod Masks
