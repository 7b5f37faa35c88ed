pub mod Keystream
pub mod States
pub mod Words
