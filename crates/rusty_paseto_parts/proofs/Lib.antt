pub mod HeaderLemmas
pub mod LimitLemmas
pub mod PaeLemmas
pub mod PublicKeyFacts
pub mod SectionLemmas
pub mod SixteenLemmas
pub mod TokenLemmas
