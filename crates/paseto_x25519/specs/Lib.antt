pub mod Agreement
pub mod Conversion
pub mod Ladder
pub mod Laws
pub mod Numbers
