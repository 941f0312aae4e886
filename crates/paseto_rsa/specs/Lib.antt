pub mod Integers
pub mod Encoding
pub mod Keys
pub mod Forms
pub mod Mask
pub mod PrivateKey
pub mod Rsa
pub mod RsaPss
