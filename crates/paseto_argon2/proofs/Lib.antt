pub mod Registers
pub mod Links
pub mod Memory
pub mod Filled
