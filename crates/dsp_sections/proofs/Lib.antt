mod ReflectedGroups
mod SectionChannels
mod LaneValues
pub mod FloorShifts
mod SectionHalves
mod SectionLanes
mod LadderLanes
mod LadderProducts
mod LadderSections
mod LadderWords
pub mod ScaledShifts
mod UnsignedLanes
pub mod FourSections
