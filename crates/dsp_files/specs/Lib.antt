pub mod Files
pub mod OverFiles
