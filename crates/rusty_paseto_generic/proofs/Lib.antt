pub mod MapLemmas
pub mod MergeLemmas
pub mod RuleLemmas
pub mod CheckLemmas
pub mod ParseLemmas
pub mod AnswerLaws
