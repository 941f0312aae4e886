pub mod Primes
pub mod Validators
