-- What parsers of tokens mean.
pub mod Rules
pub mod Verdicts
pub mod Times
pub mod Held
pub mod Parsing
