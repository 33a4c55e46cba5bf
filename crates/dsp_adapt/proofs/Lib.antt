pub mod LmsUnits
pub mod LmsSteps
pub mod ShiftedWraps
pub mod LmsMaking
