pub mod Blocks
pub mod Field
pub mod Tables
pub mod Round
