pub mod SampleBytes
mod Packing
pub mod CodedSizes
pub mod LentBlocks
pub mod GeneratorLemmas
pub mod FormatLaws
pub mod ReaderLaws
pub mod ChunkLaws
pub mod StartLaws
mod FirstFormat
pub mod OpenLaws
pub mod SampleReads
