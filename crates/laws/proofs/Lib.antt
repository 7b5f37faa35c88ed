pub mod Ivs
pub mod Pieces
pub mod Leading
pub mod Telling
pub mod Counting
pub mod Drawing
