-- ChaCha20, HChaCha20 and XChaCha20.
pub mod Block
pub mod Subkey
pub mod Stream
pub mod Lanes
pub mod Rows
