pub mod WordLemmas
mod SumLemmas
pub mod LaneOps
pub mod LaneSums
pub mod LaneClosings
pub mod HighProducts
pub mod WordViews
mod Moves
pub mod Groups
pub mod LaneRows
pub mod HalfSums
mod HalfProducts
pub mod ProductPairs
mod PairSums
mod RowProducts
pub mod Fractions
mod WeightLanes
mod HighSums
mod HighRows
pub mod DotSums
mod NarrowSums
