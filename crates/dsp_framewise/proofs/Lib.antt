pub mod Given
pub mod Shifted
