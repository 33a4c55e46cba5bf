pub mod Ongoing
pub mod Opening
pub mod Pieces
pub mod Tail
