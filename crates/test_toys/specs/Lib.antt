pub mod PlainBox
pub mod ToyBox
pub mod ToyBoxLaws
pub mod ToySchemes
pub mod ToySignature
