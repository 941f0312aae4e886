pub mod Curve
pub mod Field
pub mod Group
pub mod Line
pub mod Multiples
pub mod Point
