pub mod Header
pub mod Error
pub mod Text
pub mod Id
pub mod Rsa
pub mod Kinds
pub mod IdLaws
pub mod RsaLaws
