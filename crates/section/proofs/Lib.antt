pub mod Masks
pub mod Closings
pub mod Splits
