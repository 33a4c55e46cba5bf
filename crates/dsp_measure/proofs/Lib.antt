pub mod SumLaws
pub mod ExtremeLaws
pub mod MeasureParts
pub mod MeasureUnits
pub mod MeasureResults
