pub mod ExchangeLaws
pub mod ReaderLaws
pub mod ToldLaws
pub mod FrameLaws
mod ShortLaws
pub mod ConvertLaws
pub mod WholeLaws
pub mod EndLaws
pub mod SourceLaws
pub mod KeptSamples
mod HeaderRates
pub mod KeptSignals
mod UnreadLaws
