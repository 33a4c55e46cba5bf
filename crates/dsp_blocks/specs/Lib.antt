pub mod BlockUnit
