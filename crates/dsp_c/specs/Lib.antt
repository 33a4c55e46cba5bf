pub mod Answer
pub mod Holding
pub mod Measures
pub mod Pieces
pub mod Plan
pub mod Program
pub mod Text
