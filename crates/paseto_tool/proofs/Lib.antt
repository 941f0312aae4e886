pub mod WordLemmas
pub mod Reasons
pub mod Refusals
pub mod Inspections
