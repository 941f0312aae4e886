pub mod IntegerLaws
pub mod KeyLaws
pub mod MaskLaws
pub mod FormLaws
pub mod LengthLaws
pub mod PublicLaws
pub mod DecidedLaws
