pub mod MomentLemmas
pub mod DefaultClaims
pub mod KeyLemmas
pub mod KeyRingLemmas
pub mod KeyRingParsing
pub mod StaysOut
pub mod ValidatorLemmas
pub mod Lifetimes
