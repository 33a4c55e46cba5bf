pub mod View
pub mod Answers
pub mod Plain
pub mod Printed
