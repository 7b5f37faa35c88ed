pub mod Sections
pub mod Calls
