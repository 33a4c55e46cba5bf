pub mod Reading
pub mod Exchange
pub mod Convert
