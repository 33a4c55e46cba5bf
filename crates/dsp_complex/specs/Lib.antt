pub mod Pairs
pub mod ComplexUnit
pub mod Laws
