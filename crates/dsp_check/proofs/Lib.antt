mod Evaluations
mod PlaceSizes
mod Signals
mod Wholes
pub mod CheckEnds
