mod StopLaws
pub mod ToldLaws
