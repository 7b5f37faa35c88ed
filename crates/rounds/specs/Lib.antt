pub mod Round
pub mod Cycle
pub mod Mixing
pub mod Permutations
pub mod Reach
pub mod Paced
