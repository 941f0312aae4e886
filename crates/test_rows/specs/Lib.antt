pub mod Fields
pub mod P384
pub mod Primitives
pub mod Rsa
pub mod Schemes
pub mod Tokens
