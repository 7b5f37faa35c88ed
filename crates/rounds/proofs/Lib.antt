pub mod Round
pub mod Cycle
pub mod Near
pub mod Reach
pub mod Permutations
pub mod Paced
pub mod Parts
pub mod Streams
