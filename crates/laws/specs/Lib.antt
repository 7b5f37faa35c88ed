pub mod Runs
pub mod Comparisons
pub mod Draws
