pub mod Prefixes
pub mod KindLaws
pub mod IdLaws
pub mod RsaLaws
