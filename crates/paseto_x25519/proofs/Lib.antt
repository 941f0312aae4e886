pub mod AgreementLaws
mod LadderLaws
mod LadderMultiples
mod LadderSums
pub mod OwnKeyLaws
