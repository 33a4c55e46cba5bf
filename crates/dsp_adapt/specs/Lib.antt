pub mod LmsUnit
pub mod LmsState
pub mod PidState
pub mod Laws
