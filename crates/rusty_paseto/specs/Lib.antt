pub mod Moment
pub mod PasetoBuilder
pub mod Error
pub mod KeyRing
pub mod Held
pub mod Laws
pub mod Validators
