pub mod Ends
pub mod Groups
pub mod MaskBits
pub mod Padding
pub mod Symbols
pub mod Tails
