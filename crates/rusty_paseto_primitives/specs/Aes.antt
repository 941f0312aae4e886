-- AES with a key of 256 bits (FIPS 197), and its counter mode (SP 800-38A).
pub mod Field
pub mod State
pub mod KeySchedule
pub mod Cipher
pub mod Counter
pub mod Circuit
pub mod Planes
