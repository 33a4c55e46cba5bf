pub mod Framewise
