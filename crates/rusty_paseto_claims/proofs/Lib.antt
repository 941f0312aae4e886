pub mod WholeLemmas
pub mod DateLemmas
pub mod SameLemmas
pub mod OddLemmas
pub mod MomentLemmas
