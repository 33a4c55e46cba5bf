pub mod Taken
pub mod Stands
pub mod Reports
pub mod Origins
