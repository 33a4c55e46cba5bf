pub mod InputLemmas
pub mod TakenLaws
pub mod TextLaws
pub mod StandsLaws
pub mod FaultLaws
pub mod ReportLaws
pub mod OriginLaws
