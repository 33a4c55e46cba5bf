pub mod Reflected
pub mod Sections
pub mod Ladders
pub mod SectionWaves
