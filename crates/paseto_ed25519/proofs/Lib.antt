pub mod SecretLaws
pub mod SigningLaws
pub mod Validity
pub mod UniquenessLaws
