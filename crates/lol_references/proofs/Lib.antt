pub mod Parts
pub mod Characters
pub mod Pieces
pub mod Within
pub mod Order
pub mod Longest
