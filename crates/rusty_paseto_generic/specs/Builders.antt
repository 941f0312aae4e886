-- What builders of tokens mean.
pub mod Claims
pub mod Held
pub mod Reserved
pub mod GenericBuilder
