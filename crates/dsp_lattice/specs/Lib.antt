pub mod LatticeState
pub mod Making
pub mod Laws
