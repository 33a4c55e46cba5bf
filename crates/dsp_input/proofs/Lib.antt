pub mod Places
pub mod WholeRead
mod UnreadLaws
pub mod FaultLaws
pub mod InputLaws
pub mod SampleBytes
pub mod PieceLaws
pub mod CauseLaws
