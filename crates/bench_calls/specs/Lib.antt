pub mod Boxed
pub mod Passwords
pub mod Pem
pub mod Signed
pub mod Tokens
pub mod Versions
pub mod Wrapped
