pub mod GroupLaws
pub mod GroupFilters
pub mod RowWrites
pub mod PairedProducts
pub mod Sound
pub mod Filling
pub mod Turned
pub mod ScaledGroups
